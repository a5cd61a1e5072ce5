use Rattle.std.proofs.Common.{◌≡◌, ◌+◌, ◌-◌, ◌<◌, ◌≤◌, ℕ, length, get_or, subst, ⊎_elim, arith}
use Rattle.std.proofs.lemmas.Bool.{cases_lt}
use Rattle.iup.specs.Bounds.{Reaches}
use Rattle.iup.proofs.ArcLemmas.{reaches_cyclic}
use Rattle.iup_optimal.proofs.WayLemmas.{last_is_next}
use Rattle.iup_optimal.proofs.way.next_member.Goals as goal
use Rattle.iup_optimal.proofs.way.next_member.Goals.{else-left-end-via-then-left-end+else-reaches, else-left-end-via-else-left-end}

pub loop-to-preserved : goal.loop-to-preserved
loop-to-preserved c z low edge shorter =
    let points = c.args.table.now.points.now in
    let deltas = c.args.table.now.deltas.now in
    let left = c.args.left.now in
    let end = c.args.end in
    let at = c.args.at in
    ⊎_elim
    (λ (before : z < c.loop-to.to). c.loop-to.invariant z before edge shorter)
    (λ (not_before : c.loop-to.to ≤ z).
    let here : z ≡ c.loop-to.to = omega arith in
    let edge_here = subst (λ (x : ℕ). Reaches points deltas at x) here edge in
    let shorter_here = subst (λ (x : ℕ). get_or left (end - x) 0 + 1 ≡ get_or left (end - at) 0) here shorter in
    elim c.else-left-end.branch [
      | else-left-end-via-then-left-end+else-reaches w ↦ let tested = w.reaches.ensures.1 edge_here in absurd cc
      | else-left-end-via-else-left-end w ↦ w.if-left-end.false shorter_here
    ])
    (cases_lt z c.loop-to.to)

pub returns : goal.returns
returns c =
    let points = c.args.table.now.points.now in
    let deltas = c.args.table.now.deltas.now in
    let n = length points in
    last_is_next (Reaches points deltas) n (reaches_cyclic points deltas c.args.table.now.contour.same) c.args.left.now c.args.end c.requires.low c.requires.size c.requires.left
    c.args.at c.requires.before c.requires.within
    (λ z low edge shorter. c.loop-to.invariant z (omega arith) edge shorter)
