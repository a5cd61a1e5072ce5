use Rattle.std.proofs.Common.{◌≡◌, ◌≤◌, pos, neg_ℤ, ◌-ℤ◌, FitsSigned, to_z-of_z, arith}
use Rattle.std.proofs.lemmas.Int.{ints}
use Rattle.std.specs.Int.{w128}
use Rattle.std.specs.Int.RustNames.{unsigned_abs}
use Rattle.fixpoint.specs.Rounding.{round_up}
use Rattle.fixpoint.proofs.RoundingLemmas.{zero_minus}
use Rattle.fixpoint.proofs.rounding.nearest_down.Goals as goal

pub returns : goal.returns
returns c =
    let n : FitsSigned w128 c.args.n = c.ranges.n in
    let d : FitsSigned w128 c.args.d = c.ranges.d in
    let mirrored : FitsSigned w128 (pos 0 -ℤ c.args.n) = omega (arith, ints) in
    let value : c.nearest_up.result ≡ round_up (pos 0 -ℤ c.args.n) (unsigned_abs c.args.d) = simp to_z-of_z at c.nearest_up.ensures.value in
    let size : unsigned_abs c.nearest_up.result ≤ unsigned_abs (pos 0 -ℤ c.args.n) = simp to_z-of_z at c.nearest_up.ensures.size in
    let named : c.nearest_up.result ≡ round_up (neg_ℤ c.args.n) (unsigned_abs c.args.d) = rw zero_minus at value in
    omega (arith, ints)
