use Rattle.std.proofs.Common.{◌≡◌, ◌↔◌, ◌+◌, Bool, IsTrue, ℕ, length, subst, sym, arith}
use Rattle.iup.specs.Bounds.{IsStartPoint}
use Rattle.iup_optimal.proofs.StartLemmas.{PivotAfter, pivot_later, pivot_round, start_tested}
use Rattle.iup_optimal.proofs.starts.is_start.Goals as goal
use Rattle.iup_optimal.proofs.starts.is_start.Goals.{then-point-pivot-2, else-point-pivot-2}

pub returns : goal.returns
returns c =
    let points = c.args.table.now.points.now in
    let deltas = c.args.table.now.deltas.now in
    let n = length points in
    let pivot : PivotAfter n c.args.pivot c.args.point c.if-point-pivot-2.over = elim c.if-point-pivot-2.branch [
      | then-point-pivot-2 w ↦ subst (λ (over : ℕ). PivotAfter n c.args.pivot c.args.point over) (sym w.over-is) (pivot_later n c.args.pivot c.args.point c.requires.pivot w.if-point-pivot-2.true)
      | else-point-pivot-2 w ↦
          let is : c.if-point-pivot-2.over ≡ c.args.pivot + n = omega (arith, w.over-is, w.len.ensures) in
          subst (λ (over : ℕ). PivotAfter n c.args.pivot c.args.point over) (sym is) (pivot_round n c.args.pivot c.args.point c.requires.pivot c.requires.point (omega (arith, w.if-point-pivot-2.false, c.if-point-pivot.false)))
    ] in
    let tested = start_tested points deltas c.args.pivot c.args.point c.if-point-pivot-2.over c.next_end.result c.requires.point pivot c.if-point-pivot.false c.next_end.ensures in
    subst (λ (b : Bool). IsTrue b ↔ IsStartPoint points deltas c.args.pivot c.args.point) (sym c.is_some.ensures) tested
