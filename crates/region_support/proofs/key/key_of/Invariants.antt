use Rattle.std.proofs.Common.{◌≡◌, ◌+◌, ◌≤◌, ◌++◌, drop, length, map}
use Rattle.std.specs.Prelude.{unsigned_abs}
use Rattle.region_support.specs.MasterOrder.{points_from, axes_from, values_of, is_above}
use Rattle.region_support.specs.Coordinates.{coordinates_of}
use Rattle.region_support.proofs.key.key_of.Given as goal

-- the axes that are left complete each part
abbrev pub invariant-loop-axis : goal.invariant-loop-axis
invariant-loop-axis l = record {
  few_points : l.points ≤ l.axis;
  few_axes : length l.axes.items ≤ l.axis;
  few_sides : length l.sides.items ≤ l.axis;
  few_distances : length l.distances.items ≤ l.axis;
  points : l.points + points_from (coordinates_of l.masters) l.axis (drop l.axis l.at) ≡ points_from (coordinates_of l.masters) 0 l.at;
  axes : l.axes.items ++ axes_from l.axis (drop l.axis l.at) ≡ axes_from 0 l.at;
  sides : l.sides.items ++ map is_above (values_of (drop l.axis l.at)) ≡ map is_above (values_of l.at);
  distances : l.distances.items ++ map unsigned_abs (values_of (drop l.axis l.at)) ≡ map unsigned_abs (values_of l.at);
}
