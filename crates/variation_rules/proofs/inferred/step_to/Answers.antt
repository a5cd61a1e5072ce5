use Rattle.std.proofs.Common.{◌≡◌, ◌-ℤ◌, ◌*ℤ◌, ℤ, FitsSigned, to_z-of_z, arith, rules}
use Rattle.std.proofs.lemmas.Int.{ints}
use Rattle.std.specs.Int.{w64}
use Rattle.variation_rules.specs.FontUnits.{IsDifference}
use Rattle.variation_rules.proofs.inferred.step_to.Goals as goal

-- a product of two differences has 34 bits
difference_product : (a b : ℤ) → IsDifference a → IsDifference b → FitsSigned w64 (a *ℤ b)
difference_product a b one other = search (rules, arith, ints)

pub exact_quotient-requires : goal.exact_quotient-requires
exact_quotient-requires c = omega (arith, ints, c.difference-whole.ensures.value)

pub returns : goal.returns
returns c =
    let way : c.difference-way.result ≡ c.args.at -ℤ c.args.first.at = omega (arith, ints, c.difference-way.ensures.value) in
    let whole : c.difference-whole.result ≡ c.args.second.at -ℤ c.args.first.at = omega (arith, ints, c.difference-whole.ensures.value) in
    let rise : c.difference-rise.result ≡ c.args.second.delta -ℤ c.args.first.delta = omega (arith, ints, c.difference-rise.ensures.value) in
    let way_fits : FitsSigned w64 c.difference-way.result = search rules in
    let whole_fits : FitsSigned w64 c.difference-whole.result = search rules in
    let rise_fits : FitsSigned w64 c.difference-rise.result = search rules in
    let quotient = simp to_z-of_z at c.exact_quotient.ensures in
    let product_fits : FitsSigned w64 (c.difference-way.result *ℤ c.difference-rise.result) = difference_product c.difference-way.result c.difference-rise.result c.difference-way.ensures.within c.difference-rise.ensures.within in
    rw (← way, ← whole, ← rise) (simp to_z-of_z at quotient)

pub overflow_mul-way : goal.overflow_mul-way
overflow_mul-way c =
    let way_fits : FitsSigned w64 c.difference-way.result = search rules in
    let rise_fits : FitsSigned w64 c.difference-rise.result = search rules in
    simp to_z-of_z (difference_product c.difference-way.result c.difference-rise.result c.difference-way.ensures.within c.difference-rise.ensures.within)
