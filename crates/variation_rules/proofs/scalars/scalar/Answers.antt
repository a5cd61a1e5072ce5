use Rattle.std.proofs.Common.{◌≡◌, ℤ, ◌^◌, ◌<◌, ◌≤◌, min, List, [], ◌∷◌, length, drop, FitsSigned, refl, arith}
use Rattle.std.proofs.lemmas.Int.{ints, to_z-of_z}
use Rattle.std.proofs.lemmas.List.{length-drop}
use Rattle.std.proofs.lemmas.Nat.{pow_below}
use Rattle.std.specs.Int.{w32}
use Rattle.variation_rules.specs.Scalar.{scalar_from}
use Rattle.variation_rules.specs.declared.region.Triple.{Triple}
use Rattle.variation_rules.proofs.scalars.scalar.Goals as goal

-- where one of the lists has ended, the scalar is complete
scalar_from_end : (scalar : ℤ) (triples : List Triple) (values : List ℤ) → min (length triples) (length values) ≤ 0 → scalar_from scalar triples values ≡ scalar
scalar_from_end scalar [] values ended = refl
scalar_from_end scalar (t ∷ ts) [] ended = refl
scalar_from_end scalar (t ∷ ts) (v ∷ vs) ended = absurd (omega arith)

-- the loop ended with one of the lists, and the cast keeps a number up to 2 ^ G
pub returns-clause-value : goal.returns-clause-value
returns-clause-value g c =
    let so_far = c.loop-axis.scalar in
    let triples = c.args.region.now in
    let values = c.args.at.now in
    let axis = c.loop-axis.axis in
    let ended : min (length (drop axis triples)) (length (drop axis values)) ≤ 0 = omega (arith, length-drop axis triples, length-drop axis values) in
    let whole = scalar_from_end so_far (drop axis triples) (drop axis values) ended in
    let small : 2 ^ g.row.G < 2 ^ 31 = pow_below g.row.G 31 (omega arith) in
    let fits : FitsSigned w32 so_far = omega (arith, ints) in
    let kept = to_z-of_z w32 so_far fits in
    let rest = c.loop-axis.invariant.rest in
    let made = c.from_raw.ensures in
    cc
