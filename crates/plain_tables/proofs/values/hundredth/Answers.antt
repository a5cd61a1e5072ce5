use Rattle.std.proofs.Common.{◌≡◌, ℤ, FitsSigned, ap, ◌∙◌, arith}
use Rattle.std.proofs.lemmas.Int.{ints}
use Rattle.std.specs.Int.{w16}
use Rattle.be_bytes.specs.declared.field.Field.TheVariants.{Int16}
use Rattle.fixpoint.specs.Rounding.{round_up}
use Rattle.plain_tables.proofs.FieldRanges.{hundredth_fits}
use Rattle.plain_tables.proofs.values.hundredth.Goals as goal

value : (c : goal.After-divide_up) → c.divide_up.result ≡ round_up c.args.value 100
value c = c.divide_up.ensures.value ∙ ap (λ (z : ℤ). round_up z 100) (omega (arith, ints))

pub overflow_cast-result : goal.overflow_cast-result
overflow_cast-result c =
    let fits : FitsSigned w16 (round_up c.args.value 100) = hundredth_fits c.args.value c.requires.least c.requires.greatest in
    omega (arith, ints, value c)

pub returns : goal.returns
returns c =
    let fits : FitsSigned w16 (round_up c.args.value 100) = hundredth_fits c.args.value c.requires.least c.requires.greatest in
    ap Int16 (omega (arith, ints, value c))
