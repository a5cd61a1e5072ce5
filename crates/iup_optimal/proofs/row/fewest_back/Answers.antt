use Rattle.std.proofs.Common.{◌+◌, ◌-◌, ℕ, length, subst, sym, arith}
use Rattle.iup.specs.Bounds.{Reaches}
use Rattle.iup.proofs.ArcLemmas.{reaches_cyclic}
use Rattle.iup_optimal.specs.Tables.{IsNearestEnd}
use Rattle.iup_optimal.proofs.RowLemmas.{FewestBack, back_more, back_least}
use Rattle.iup_optimal.proofs.row.fewest_back.Goals as goal

pub loop-to-preserved : goal.loop-to-preserved
loop-to-preserved c =
    let points = c.args.table.now.points.now in
    let deltas = c.args.table.now.deltas.now in
    let end = c.args.end in
    let from : ℕ = end - c.args.back in
    let low = c.loop-to.low in
    let to = c.in-Some.to in
    let after = c.loop-to.invariant.after in
    let small = c.loop-to.invariant.small in
    let found : IsNearestEnd points deltas from low to = c.in-Some.ensures in
    let not_before = found.not_before in
    let more = back_more (Reaches points deltas) from end c.args.row.now low c.loop-to.fewest to c.requires.row (omega arith) c.loop-to.invariant.found after not_before (omega arith) found.reach found.nearest in
    record {
      found = subst (λ (k : ℕ). FewestBack (Reaches points deltas) from end c.args.row.now (to + 1) k) (sym c.min-fewest.ensures) more;
      small = omega arith;
      after = omega arith;
      within = omega arith;
    }

pub returns-then-end-to-clause-fewest : goal.returns-then-end-to-clause-fewest
returns-then-end-to-clause-fewest c =
    let points = c.args.table.now.points.now in
    let deltas = c.args.table.now.deltas.now in
    let end = c.args.end in
    let from : ℕ = end - c.args.back in
    let found : IsNearestEnd points deltas from c.loop-to.low c.in-Some.to = c.in-Some.ensures in
    back_least (Reaches points deltas) (length points) from end c.args.row.now c.loop-to.low c.loop-to.fewest (reaches_cyclic points deltas c.args.table.now.contour.same)
    c.requires.row (omega arith) (omega arith) c.loop-to.invariant.found
    (λ z low inside. found.nearest z low (omega arith))

pub returns-clause-fewest : goal.returns-clause-fewest
returns-clause-fewest c =
    let points = c.args.table.now.points.now in
    let deltas = c.args.table.now.deltas.now in
    let end = c.args.end in
    let from : ℕ = end - c.args.back in
    back_least (Reaches points deltas) (length points) from end c.args.row.now c.loop-to.low c.loop-to.fewest (reaches_cyclic points deltas c.args.table.now.contour.same)
    c.requires.row (omega arith) (omega arith) c.loop-to.invariant.found
    (λ z low inside step. c.in_default.ensures z low step)
