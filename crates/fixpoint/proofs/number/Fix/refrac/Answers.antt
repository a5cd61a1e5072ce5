use Rattle.std.proofs.Common.{◌≡◌, ◌<◌, ◌≤◌, ◌^◌, pos, ◌*ℤ◌, FitsSigned, to_z-of_z, arith}
use Rattle.std.proofs.lemmas.Int.{ints, fits_signed_mul}
use Rattle.std.proofs.lemmas.Nat.{pow_below, pow_pos}
use Rattle.std.specs.Int.{w32, w64}
use Rattle.std.specs.Int.RustNames.{unsigned_abs}
use Rattle.fixpoint.specs.Rounding.{round_up}
use Rattle.fixpoint.proofs.RoundingLemmas.{round_up_fits}
use Rattle.fixpoint.proofs.number.Fix.refrac.Goals as goal

-- the raw number has at most 31 binary places, the unit that it is multiplied by fewer, and rounding adds none
pub mul_div_up-raw-requires-clause-fits : goal.mul_div_up-raw-requires-clause-fits
mul_div_up-raw-requires-clause-fits g c =
    let raw : FitsSigned w32 c.wide.result = c.wide.ensures.size in
    let size : unsigned_abs c.wide.result ≤ 2 ^ 31 = omega (arith, ints) in
    let below : 2 ^ g.row.G < 2 ^ 31 = pow_below g.row.G 31 (omega arith) in
    let below-2 : 2 ^ g.row.F < 2 ^ 31 = pow_below g.row.F 31 (omega arith) in
    let to : c.unit.result ≡ pos (2 ^ g.row.G) = c.unit.ensures in
    let from : c.unit-2.result ≡ pos (2 ^ g.row.F) = c.unit-2.ensures in
    let product : FitsSigned w64 (c.wide.result *ℤ pos (2 ^ g.row.G)) =
    fits_signed_mul w64 c.wide.result (pos (2 ^ g.row.G)) (2 ^ 31) (2 ^ 31) size (omega (arith, ints)) (omega arith) in
    let fits : FitsSigned w64 (round_up (c.wide.result *ℤ pos (2 ^ g.row.G)) (2 ^ g.row.F)) =
    round_up_fits w64 (c.wide.result *ℤ pos (2 ^ g.row.G)) (2 ^ g.row.F) (pow_pos g.row.F) product in
    let w : FitsSigned w64 c.wide.result = omega (arith, ints) in
    let t : FitsSigned w64 (pos (2 ^ g.row.G)) = omega (arith, ints) in
    let f : FitsSigned w64 (pos (2 ^ g.row.F)) = omega (arith, ints) in
    simp (to, from, to_z-of_z) fits
