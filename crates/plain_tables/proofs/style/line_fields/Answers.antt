use Rattle.std.proofs.Common.{◌≡◌, ℤ, neg_ℤ, FitsSigned, ap, ◌∙◌, arith, to_z, of_z, rules}
use Rattle.std.proofs.lemmas.Int.{ints}
use Rattle.std.specs.Int.{w16, w32}
use Rattle.be_bytes.specs.declared.field.Field.TheVariants.{Int16}
use Rattle.fixpoint.specs.Rounding.{round_up}
use Rattle.plain_tables.specs.FixedFields.{word}
use Rattle.plain_tables.specs.StyleMetrics.{class_fields, clipped, hundredths, line_fields, thousandths}
use Rattle.plain_tables.proofs.style.line_fields.Goals as goal

pub returns-clause-value : goal.returns-clause-value
unfolding line_fields
returns-clause-value c =
    let short_is : c.short.result ≡ Int16 c.args.info.now.typo_ascender = c.short.ensures ∙ ap (λ (z : ℤ). Int16 z) (omega (arith, ints)) in
    let short_2_is : c.short-2.result ≡ Int16 c.args.info.now.typo_descender = c.short-2.ensures ∙ ap (λ (z : ℤ). Int16 z) (omega (arith, ints)) in
    let short_3_is : c.short-3.result ≡ Int16 c.args.info.now.typo_gap = c.short-3.ensures ∙ ap (λ (z : ℤ). Int16 z) (omega (arith, ints)) in
    let short_4_is : c.short-4.result ≡ Int16 c.args.info.now.x_height = c.short-4.ensures ∙ ap (λ (z : ℤ). Int16 z) (omega (arith, ints)) in
    let short_5_is : c.short-5.result ≡ Int16 c.args.info.now.cap_height = c.short-5.ensures ∙ ap (λ (z : ℤ). Int16 z) (omega (arith, ints)) in
    let most : FitsSigned w16 c.args.bounds.y_max = search rules in
    let least : FitsSigned w16 c.args.bounds.y_min = search rules in
    let clip_is : c.clip.result ≡ word (clipped c.args.info.now.win_ascent c.args.bounds.y_max) = c.clip.ensures ∙ ap (λ (z : ℤ). word (clipped c.args.info.now.win_ascent z)) (omega (arith, ints)) in
    let clip_2_is : c.clip-2.result ≡ word (clipped c.args.info.now.win_descent (neg_ℤ c.args.bounds.y_min)) = c.clip-2.ensures ∙ ap (λ (z : ℤ). word (clipped c.args.info.now.win_descent z)) (omega (arith, ints)) in
    cc
