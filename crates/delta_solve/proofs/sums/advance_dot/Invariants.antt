use Rattle.std.proofs.Common.{◌≡◌, ◌*◌, ◌+ℤ◌, drop, map}
use Rattle.variation_rules.specs.FontUnits.{IsWithin}
use Rattle.delta_solve.specs.Deltas.{dot}
use Rattle.delta_solve.specs.GlyphModels.{delta_advance}
use Rattle.delta_solve.proofs.sums.advance_dot.Given as goal

-- the products that are left complete the sum, and each adds at most 2 ^ 31
abbrev pub invariant-loop-k : goal.invariant-loop-k
invariant-loop-k l = record {
  rest : l.sum +ℤ dot (drop l.k l.scalars) (drop l.k (map delta_advance l.tuples)) ≡ dot l.scalars (map delta_advance l.tuples);
  within : IsWithin (l.k * 2147483648) l.sum;
}
