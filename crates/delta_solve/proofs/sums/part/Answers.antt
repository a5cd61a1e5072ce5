use Rattle.std.proofs.Common.{◌≡◌, ◌*ℤ◌, to_z-of_z, FitsSigned, arith}
use Rattle.std.proofs.lemmas.Int.{ints}
use Rattle.std.specs.Int.{w64}
use Rattle.delta_solve.proofs.SumSteps.{product_within}
use Rattle.delta_solve.proofs.sums.part.Goals as goal

pub returns-clause-within : goal.returns-clause-within
returns-clause-within c =
    let within = product_within c.args.scalar c.args.delta c.requires.scalar c.requires.delta in
    let scalar_range = c.ranges.scalar in
    let delta_range = c.ranges.delta in
    let scalar : c.from.result ≡ c.args.scalar = simp to_z-of_z at c.from.ensures in
    let delta : c.from-2.result ≡ c.args.delta = simp to_z-of_z at c.from-2.ensures in
    let scalar_fits : FitsSigned w64 c.args.scalar = omega (arith, ints) in
    let delta_fits : FitsSigned w64 c.args.delta = omega (arith, ints) in
    let fits : FitsSigned w64 (c.args.scalar *ℤ c.args.delta) = omega (arith, ints, within.low, within.high) in
    rw (scalar, delta) (simp to_z-of_z within)
