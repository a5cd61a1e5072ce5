use Rattle.std.proofs.Common.{◌≡◌, ◌*◌, ◌+ℤ◌, drop}
use Rattle.variation_rules.specs.FontUnits.{IsWithin}
use Rattle.delta_solve.specs.Deltas.{dot}
use Rattle.delta_solve.proofs.sums.dot.Given as goal

-- the products that are left complete the sum, and each adds at most 2 ^ 31
abbrev pub invariant-loop-k : goal.invariant-loop-k
invariant-loop-k l = record {
  rest : l.sum +ℤ dot (drop l.k l.scalars) (drop l.k l.deltas) ≡ dot l.scalars l.deltas;
  within : IsWithin (l.k * 2147483648) l.sum;
}
