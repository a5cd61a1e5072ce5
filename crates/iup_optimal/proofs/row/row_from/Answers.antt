use Rattle.std.proofs.Common.{◌≡◌, ℕ, length, subst, arith}
use Rattle.iup.specs.Bounds.{Reaches}
use Rattle.iup_optimal.specs.Rows.{IsRowVia}
use Rattle.iup_optimal.proofs.RowLemmas.{via_start, row_least}
use Rattle.iup_optimal.proofs.row.row_from.Goals as goal

pub loop-from-init : goal.loop-from-init
loop-from-init c =
    let points = c.args.table.now.points.now in
    via_start points c.args.table.now.deltas.now c.args.start c.loop-place.row.items c.args.table.now.contour.some (omega arith)
    (λ a inside. c.loop-place.invariant.plain a (omega arith))

pub returns : goal.returns
returns c =
    let points = c.args.table.now.points.now in
    let deltas = c.args.table.now.deltas.now in
    let end : c.loop-from.from ≡ length points = omega arith in
    row_least points deltas c.args.start c.loop-from.row.items c.args.table.now.contour.same
    (subst (λ (b : ℕ). IsRowVia (Reaches points deltas) c.args.start (length points) b c.loop-from.row.items) end c.loop-from.invariant)
