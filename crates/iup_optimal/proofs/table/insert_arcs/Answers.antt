use Rattle.std.proofs.Common.{◌≡◌, ◌+◌, ◌-◌, ◌*◌, ◌<◌, ◌↔◌, IsTrue, List, ℕ, length, refl, sym, ◌∙◌, ap, subst, arith}
use Rattle.iup.specs.Arcs.{Spans}
use Rattle.iup_optimal.specs.Tables.{TellsArcs}
use Rattle.iup_optimal.proofs.TableLemmas.{tells_insert, tells_skip, tells_rest, entry_is}
use Rattle.iup_optimal.proofs.ViewLemmas.{view_closed}
use Rattle.iup_optimal.proofs.table.insert_arcs.Goals as goal
use Rattle.iup_optimal.proofs.table.insert_arcs.Goals.{then-pass, else-pass}

pub returns-then-is_closed-clause-tells : goal.returns-then-is_closed-clause-tells
returns-then-is_closed-clause-tells c =
    let points = c.args.points.now in
    let deltas = c.args.deltas.now in
    let from = c.args.from in
    let to = c.loop-to.to in
    tells_rest points deltas c.loop-to.arcs.words.items from to (from * length points + (to - from - 1)) (omega arith) (omega arith) refl c.loop-to.invariant.tells
    (λ end later. view_closed points deltas from to end c.loop-to.view c.requires.contour c.loop-to.invariant.seen (c.is_closed.ensures c.if-is_closed.true) later)

pub loop-to-preserved : goal.loop-to-preserved
loop-to-preserved c =
    let points = c.args.points.now in
    let deltas = c.args.deltas.now in
    let from = c.args.from in
    let to = c.loop-to.to in
    let n = length points in
    let e : ℕ = from * n + (to - from - 1) in
    let old = c.loop-to.arcs.words.items in
    let seen = c.loop-to.invariant.seen in
    let ahead : from < to = omega arith in
    let entry = entry_is points deltas from to e ahead (omega arith) refl in
    let holds : IsTrue c.pass.result ↔ Spans points deltas from to = c.pass.ensures.holds from ahead seen in
    let next : from * n + (to + 1 - from - 1) ≡ e + 1 = omega arith in
    let kept : TellsArcs points deltas (e + 1) c.if-pass.arcs.words.items × (length c.if-pass.arcs.words.items ≡ length old) = elim c.if-pass.branch [
      | then-pass w ↦
          let items : c.if-pass.arcs.words.items ≡ w.insert.new.self.words.items = cc in
          let told = tells_insert points deltas old w.insert.new.self.words.items e c.loop-to.invariant.tells (entry.1 (holds.0 w.if-pass.true)) w.insert.ensures.has in
          (subst (λ (xs : List ℕ). TellsArcs points deltas (e + 1) xs) (sym items) told, ap (λ (xs : List ℕ). length xs) items ∙ w.insert.ensures.room)
      | else-pass w ↦
          let items : c.if-pass.arcs.words.items ≡ old = cc in
          let told = tells_skip points deltas old e c.loop-to.invariant.tells (λ arc. let tested = holds.1 (entry.0 arc) in absurd cc) in
          (subst (λ (xs : List ℕ). TellsArcs points deltas (e + 1) xs) (sym items) told, ap (λ (xs : List ℕ). length xs) items)
    ] in
    record {
      room = kept.1 ∙ c.loop-to.invariant.room;
      tells = subst (λ (k : ℕ). TellsArcs points deltas k c.if-pass.arcs.words.items) (sym next) kept.0;
      seen = c.pass.ensures.sees from ahead seen;
    }

pub returns-clause-tells : goal.returns-clause-tells
returns-clause-tells c =
    let n = length c.args.points.now in
    let from = c.args.from in
    let end : from * n + (c.loop-to.to - from - 1) ≡ (from + 1) * n = omega arith in
    subst (λ (k : ℕ). TellsArcs c.args.points.now c.args.deltas.now k c.loop-to.arcs.words.items) end c.loop-to.invariant.tells
