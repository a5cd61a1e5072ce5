use Rattle.std.proofs.Common.{to_z-of_z, FitsSigned, ◌≡◌, arith}
use Rattle.std.proofs.lemmas.Int.{ints}
use Rattle.std.specs.Int.{w32, w64}
use Rattle.variation_rules.proofs.filling.inferred_number.Goals as goal

-- the casts keep numbers of 16 bits
pub returns-in-Some-clause-value : goal.returns-in-Some-clause-value
returns-in-Some-clause-value c =
    let same : c.from.result ≡ c.args.at = omega (arith, ints) in
    let at_fits : FitsSigned w64 c.args.at = omega (arith, ints) in
    let fits : FitsSigned w64 c.in-Some.delta = omega (arith, ints, c.in-Some.ensures.within) in
    let narrow : FitsSigned w32 c.in-Some.delta = omega (arith, ints, c.in-Some.ensures.within) in
    simp to_z-of_z (simp (same, to_z-of_z) at c.in-Some.ensures.value)
