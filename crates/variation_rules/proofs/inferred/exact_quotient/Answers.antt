use Rattle.std.proofs.Common.{to_z-of_z, ap}
use Rattle.std.specs.Int.{w64, cast_unsigned}
use Rattle.variation_rules.proofs.InferredLemmas.{rest_of_multiple}
use Rattle.variation_rules.proofs.inferred.exact_quotient.Goals as goal

-- a multiple would leave no remainder
pub returns-else-product-factor-eq0 : goal.returns-else-product-factor-eq0
returns-else-product-factor-eq0 c q multiple =
    let product_fits = c.ranges.product in
    let factor_fits = c.ranges.factor in
    let rest = rest_of_multiple c.args.product c.args.factor q c.requires multiple in
    let tested = simp to_z-of_z at c.if-product-factor-eq0.false in
    tested (ap (cast_unsigned w64) rest)
