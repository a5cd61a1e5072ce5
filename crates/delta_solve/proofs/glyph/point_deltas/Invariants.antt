use Rattle.std.proofs.Common.{◌≡◌, ℕ, ◌-◌, ◌<◌, All, length, map, flat_map}
use Rattle.variation_rules.specs.FontUnits.{AreFWords}
use Rattle.variation_rules.specs.PackedPoints.{count_from}
use Rattle.delta_solve.specs.GlyphModels.{first_some, point_misfits, next_x, next_y, next_point_misfits}
use Rattle.delta_solve.specs.Outlines.{position, x_at, y_at}
use Rattle.delta_solve.proofs.glyph.point_deltas.Given as goal

-- the points so far have their deltas, and the first fault is among the others
abbrev pub invariant-loop-point : goal.invariant-loop-point
invariant-loop-point l = record {
  count : length l.deltas.items ≡ l.point;
  xs : (point : ℕ) → point < l.point → x_at point l.deltas.items ≡ next_x l.row l.earlier (map position l.points) point;
  ys : (point : ℕ) → point < l.point → y_at point l.deltas.items ≡ next_y l.row l.earlier (map position l.points) point;
  within : All AreFWords l.deltas.items;
  fault : first_some (flat_map (point_misfits l.master (next_x l.row l.earlier (map position l.points)) (next_y l.row l.earlier (map position l.points))) (count_from (length (map position l.points) - l.point) l.point))
      ≡ first_some (next_point_misfits l.master l.row l.earlier (map position l.points));
}
