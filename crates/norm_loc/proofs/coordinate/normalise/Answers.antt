use Rattle.std.proofs.Common.{◌≡◌, FitsSigned, to_z-of_z, arith, ◌∙◌, ap}
use Rattle.std.proofs.lemmas.Int.{ints}
use Rattle.std.specs.Int.{w32, w64}
use Rattle.norm_loc.specs.Normalising.{brought, normalised_within}
use Rattle.norm_loc.specs.Spans.{limits}
use Rattle.norm_loc.proofs.coordinate.normalise.Goals as goal

pub returns-clause-value : goal.returns-clause-value
returns-clause-value c =
    let min : FitsSigned w64 c.wide.result = omega (arith, ints) in
    let max : FitsSigned w64 c.wide-2.result = omega (arith, ints) in
    let v : FitsSigned w64 c.wide-3.result = omega (arith, ints) in
    let at : FitsSigned w64 c.brought-value.result = omega (arith, ints) in
    let wide : FitsSigned w64 c.normalised_within.result = omega (arith, ints) in
    let short : FitsSigned w32 c.normalised_within.result = omega (arith, ints) in
    let raw : c.from_raw.result ≡ c.normalised_within.result = simp to_z-of_z at c.from_raw.ensures in
    let within : c.normalised_within.result ≡ normalised_within (limits c.args.span.now) c.brought-value.result = simp to_z-of_z at c.normalised_within.ensures.value in
    let between : c.brought-value.result ≡ brought c.wide.result c.wide-2.result c.wide-3.result = simp to_z-of_z at c.brought-value.ensures.value in
    let own = rw (c.wide.ensures.value, c.wide-2.ensures.value, c.wide-3.ensures.value) at between in
    raw ∙ (within ∙ ap (normalised_within (limits c.args.span.now)) own)
