use Rattle.std.proofs.Common.{◌≡◌, ℤ, FitsSigned, ap, subst, to_z, of_z, to_z-of_z, arith, rules}
use Rattle.std.proofs.lemmas.Int.{ints}
use Rattle.std.proofs.lemmas.Bool.{eqb-true, eq-eqb}
use Rattle.std.specs.Int.{w64}
use Rattle.variation_rules.specs.InferredDelta.{Between}
use Rattle.variation_rules.proofs.InferredLemmas.{between_is_one}
use Rattle.iup.proofs.between.is_between.Goals as goal

-- a number is that of its bits
same_number : (a b : ℤ) → FitsSigned w64 a → FitsSigned w64 b → of_z w64 a ≡ of_z w64 b → a ≡ b
same_number a b a_fits b_fits same = simp to_z-of_z at (ap (to_z w64) same)

-- where one delta is inferred, it is the only one
pub returns-in-Some : goal.returns-in-Some
returns-in-Some c =
    let found_fits : FitsSigned w64 c.in-Some.delta = search rules in
    let point_fits : FitsSigned w64 c.args.point.delta = omega (arith, ints) in
    let at_fits : FitsSigned w64 c.args.point.at = omega (arith, ints) in
    let inferred : Between c.args.first.at c.args.first.delta c.args.second.at c.args.second.delta c.args.point.at c.in-Some.delta = simp to_z-of_z at c.in-Some.ensures.value in (
      λ holds. subst (Between c.args.first.at c.args.first.delta c.args.second.at c.args.second.delta c.args.point.at)
          (same_number c.in-Some.delta c.args.point.delta found_fits point_fits (eqb-true _ _ holds)) inferred,
      λ between. eq-eqb _ _ (ap (of_z w64) (between_is_one c.args.first.at c.args.first.delta c.args.second.at c.args.second.delta c.args.point.at c.in-Some.delta c.args.point.delta inferred between)),
    )
