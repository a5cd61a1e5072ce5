use Rattle.std.proofs.Common.{◌≡◌, ◌<◌, FitsSigned, to_z-of_z, arith}
use Rattle.std.proofs.lemmas.Int.{ints}
use Rattle.std.specs.Int.{w64}
use Rattle.std.specs.Int.RustNames.{unsigned_abs}
use Rattle.fixpoint.specs.Rounding.{round_down}
use Rattle.fixpoint.proofs.RoundingLemmas.{round_down_fits, round_down_size, times_one}
use Rattle.fixpoint.proofs.rounding.divide_down.Goals as goal

pub mul_div_down-requires-clause-fits : goal.mul_div_down-requires-clause-fits
mul_div_down-requires-clause-fits c =
    let n : FitsSigned w64 c.args.n = c.ranges.n in
    let d : FitsSigned w64 c.args.d = c.ranges.d in
    let some : 0 < unsigned_abs c.args.d = omega (arith, ints) in
    simp (to_z-of_z, times_one) (round_down_fits w64 c.args.n (unsigned_abs c.args.d) some n)

pub returns-clause-size : goal.returns-clause-size
returns-clause-size c =
    let n : FitsSigned w64 c.args.n = c.ranges.n in
    let d : FitsSigned w64 c.args.d = c.ranges.d in
    let some : 0 < unsigned_abs c.args.d = omega (arith, ints) in
    let value : c.mul_div_down.result ≡ round_down c.args.n (unsigned_abs c.args.d) = simp (to_z-of_z, times_one) at c.mul_div_down.ensures in
    omega (arith, ints, round_down_size c.args.n (unsigned_abs c.args.d) some)
