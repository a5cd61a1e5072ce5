use Rattle.std.proofs.Common.{◌≡◌, pos, ◌^◌, ◌≤ℤ◌, drop}
use Rattle.variation_rules.specs.Scalar.{scalar_from, scalar_of}
use Rattle.variation_rules.proofs.scalars.scalar.Given as goal

-- the axes that are left complete the scalar
abbrev pub invariant-loop-axis : goal.invariant-loop-axis
invariant-loop-axis g l = record {
  rest : scalar_from l.scalar (drop l.axis l.region) (drop l.axis l.at) ≡ scalar_of g.row.G l.region l.at;
  low : pos 0 ≤ℤ l.scalar;
  high : l.scalar ≤ℤ pos (2 ^ g.row.G);
}
