use Rattle.std.proofs.Common.{◌≡◌, ◌*◌, ◌+ℤ◌, drop, map}
use Rattle.variation_rules.specs.FontUnits.{IsWithin}
use Rattle.delta_solve.specs.Deltas.{dot}
use Rattle.delta_solve.specs.GlyphModels.{delta_x, delta_y}
use Rattle.delta_solve.proofs.sums.point_dot.Given as goal

-- the products that are left complete the sums, and each adds at most 2 ^ 31
abbrev pub invariant-loop-k : goal.invariant-loop-k
invariant-loop-k l = record {
  x : l.x +ℤ dot (drop l.k l.scalars) (drop l.k (map (delta_x l.point) l.tuples)) ≡ dot l.scalars (map (delta_x l.point) l.tuples);
  y : l.y +ℤ dot (drop l.k l.scalars) (drop l.k (map (delta_y l.point) l.tuples)) ≡ dot l.scalars (map (delta_y l.point) l.tuples);
  within_x : IsWithin (l.k * 2147483648) l.x;
  within_y : IsWithin (l.k * 2147483648) l.y;
}
