use Rattle.std.proofs.Common.{◌≡◌, All, length}
use Rattle.variation_rules.specs.FontUnits.{AreFWords}
use Rattle.iup_optimal.proofs.tests.contour.Given as goal

abbrev pub invariant-loop-point : goal.invariant-loop-point
invariant-loop-point l = record {
  points_fit : All AreFWords l.points.items;
  deltas_fit : All AreFWords l.deltas.items;
  point_count : length l.points.items ≡ l.point-index;
  delta_count : length l.deltas.items ≡ l.point-index;
}
