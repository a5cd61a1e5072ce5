use Rattle.std.proofs.Common.{◌≡◌, ℤ, neg_ℤ, FitsSigned, ap, ◌∙◌, arith, to_z, of_z, rules}
use Rattle.std.proofs.lemmas.Int.{ints}
use Rattle.std.specs.Int.{w16, w32}
use Rattle.be_bytes.specs.declared.field.Field.TheVariants.{Int16}
use Rattle.fixpoint.specs.Rounding.{round_up}
use Rattle.plain_tables.specs.FixedFields.{word}
use Rattle.plain_tables.specs.StyleMetrics.{class_fields, clipped, hundredths, line_fields, thousandths}
use Rattle.plain_tables.proofs.style.class_fields.Goals as goal

pub returns : goal.returns
unfolding class_fields
returns c =
    let average_is : to_z w16 (of_z w16 c.args.average) ≡ c.args.average = omega (arith, ints) in
    let weight : to_z w32 (of_z w32 c.args.info.now.weight) ≡ c.args.info.now.weight = omega (arith, ints) in
    let weight_is : c.word.result ≡ word c.args.info.now.weight = c.word.ensures ∙ ap word weight in
    let width : to_z w32 (of_z w32 c.args.info.now.width) ≡ c.args.info.now.width = omega (arith, ints) in
    let width_is : c.word-2.result ≡ word c.args.info.now.width = c.word-2.ensures ∙ ap word width in
    let hundredth_is : c.hundredth.result ≡ Int16 (hundredths 65 c.args.info.now.units) = c.hundredth.ensures ∙ ap (λ (z : ℤ). Int16 (round_up z 100)) (omega (arith, ints)) in
    let hundredth_2_is : c.hundredth-2.result ≡ Int16 (hundredths 60 c.args.info.now.units) = c.hundredth-2.ensures ∙ ap (λ (z : ℤ). Int16 (round_up z 100)) (omega (arith, ints)) in
    let hundredth_3_is : c.hundredth-3.result ≡ Int16 (hundredths 65 c.args.info.now.units) = c.hundredth-3.ensures ∙ ap (λ (z : ℤ). Int16 (round_up z 100)) (omega (arith, ints)) in
    let hundredth_4_is : c.hundredth-4.result ≡ Int16 (hundredths 60 c.args.info.now.units) = c.hundredth-4.ensures ∙ ap (λ (z : ℤ). Int16 (round_up z 100)) (omega (arith, ints)) in
    let hundredth_5_is : c.hundredth-5.result ≡ Int16 (hundredths 35 c.args.info.now.units) = c.hundredth-5.ensures ∙ ap (λ (z : ℤ). Int16 (round_up z 100)) (omega (arith, ints)) in
    let hundredth_6_is : c.hundredth-6.result ≡ Int16 (hundredths 60 c.args.info.now.x_height) = c.hundredth-6.ensures ∙ ap (λ (z : ℤ). Int16 (round_up z 100)) (omega (arith, ints)) in
    let thousandth_is : c.thousandth.result ≡ Int16 (thousandths 75 c.args.info.now.units) = c.thousandth.ensures ∙ ap (λ (z : ℤ). Int16 (round_up z 1000)) (omega (arith, ints)) in
    let short_is : c.short.result ≡ Int16 c.args.info.now.underline_size = c.short.ensures ∙ ap (λ (z : ℤ). Int16 z) (omega (arith, ints)) in
    cc
