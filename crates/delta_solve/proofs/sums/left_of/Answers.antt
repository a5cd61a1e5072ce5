use Rattle.std.proofs.Common.{◌≡◌, pos, ◌-ℤ◌, ◌*ℤ◌, to_z-of_z, FitsSigned, rules, arith}
use Rattle.std.proofs.lemmas.Int.{ints}
use Rattle.std.specs.Int.{w64}
use Rattle.delta_solve.proofs.sums.left_of.Goals as goal

pub returns : goal.returns
returns c =
    let range = c.ranges.value in
    let given_range = c.ranges.given in
    let value : c.from.result ≡ c.args.value = simp to_z-of_z at c.from.ensures in
    let value_fits : FitsSigned w64 c.args.value = omega (arith, ints) in
    let product : FitsSigned w64 (pos 65536 *ℤ c.args.value) = omega (arith, ints) in
    let left : FitsSigned w64 ((pos 65536 *ℤ c.args.value) -ℤ c.args.given) = omega (arith, ints) in
    let result : FitsSigned w64 c.divide_down.result = search rules in
    simp to_z-of_z (simp to_z-of_z at (rw value at c.divide_down.ensures.value))
