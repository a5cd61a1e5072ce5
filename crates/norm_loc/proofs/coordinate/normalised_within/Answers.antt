use Rattle.std.proofs.Common.{◌≡◌, ◌-ℤ◌, ℤ, FitsSigned, to_z-of_z, arith, true, false, ◌∙◌, sym, refl}
use Rattle.std.proofs.lemmas.Int.{ints}
use Rattle.std.specs.Int.{w64}
use Rattle.std.specs.Prelude.{int_lt}
use Rattle.norm_loc.specs.Normalising.{Limits, normalised_within, share}
use Rattle.norm_loc.specs.Spans.{limits}
use Rattle.norm_loc.proofs.coordinate.normalised_within.Goals as goal

below : (s : Limits) (v default min part whole : ℤ) → default ≡ s.default → min ≡ s.min → int_lt v default ≡ true → part ≡ v -ℤ default → whole ≡ default -ℤ min → normalised_within s v ≡ share part whole
unfolding normalised_within
below s v default min part whole d m test p w = rw (← d, test, ← m, p, w) refl

above : (s : Limits) (v default max part whole : ℤ) → default ≡ s.default → max ≡ s.max → int_lt v default ≡ false → part ≡ v -ℤ default → whole ≡ max -ℤ default → normalised_within s v ≡ share part whole
unfolding normalised_within
above s v default max part whole d m test p w = rw (← d, test, ← m, p, w) refl

pub returns-then-value-default-clause-value : goal.returns-then-value-default-clause-value
returns-then-value-default-clause-value c =
    let value : FitsSigned w64 c.args.value = c.ranges.value in
    let default : FitsSigned w64 c.wide-default.result = omega (arith, ints) in
    let min : FitsSigned w64 c.wide.result = omega (arith, ints) in
    let part : FitsSigned w64 (c.args.value -ℤ c.wide-default.result) = omega (arith, ints) in
    let whole : FitsSigned w64 (c.wide-default.result -ℤ c.wide.result) = omega (arith, ints) in
    let fits : FitsSigned w64 c.share.result = omega (arith, ints) in
    let shared : c.share.result ≡ share (c.args.value -ℤ c.wide-default.result) (c.wide-default.result -ℤ c.wide.result) = simp to_z-of_z at c.share.ensures.value in
    let test : int_lt c.args.value c.wide-default.result ≡ true = simp to_z-of_z at c.if-value-default.true in
    simp to_z-of_z (shared ∙ sym (below (limits c.args.span.now) c.args.value c.wide-default.result c.wide.result (c.args.value -ℤ c.wide-default.result) (c.wide-default.result -ℤ c.wide.result) c.wide-default.ensures.value c.wide.ensures.value test refl refl))

pub returns-else-value-default-clause-value : goal.returns-else-value-default-clause-value
returns-else-value-default-clause-value c =
    let value : FitsSigned w64 c.args.value = c.ranges.value in
    let default : FitsSigned w64 c.wide-default.result = omega (arith, ints) in
    let max : FitsSigned w64 c.wide-else-value-default.result = omega (arith, ints) in
    let part : FitsSigned w64 (c.args.value -ℤ c.wide-default.result) = omega (arith, ints) in
    let whole : FitsSigned w64 (c.wide-else-value-default.result -ℤ c.wide-default.result) = omega (arith, ints) in
    let fits : FitsSigned w64 c.share-else-value-default.result = omega (arith, ints) in
    let shared : c.share-else-value-default.result ≡ share (c.args.value -ℤ c.wide-default.result) (c.wide-else-value-default.result -ℤ c.wide-default.result) = simp to_z-of_z at c.share-else-value-default.ensures.value in
    let test : int_lt c.args.value c.wide-default.result ≡ false = simp to_z-of_z at c.if-value-default.false in
    simp to_z-of_z (shared ∙ sym (above (limits c.args.span.now) c.args.value c.wide-default.result c.wide-else-value-default.result (c.args.value -ℤ c.wide-default.result) (c.wide-else-value-default.result -ℤ c.wide-default.result) c.wide-default.ensures.value c.wide-else-value-default.ensures.value test refl refl))
