use Rattle.std.proofs.Common.{◌≡◌, ℤ, pos, ◌*ℤ◌, ap, ◌∙◌, arith}
use Rattle.std.proofs.lemmas.Int.{ints}
use Rattle.be_bytes.specs.declared.field.Field.TheVariants.{Int32}
use Rattle.fixpoint.specs.Rounding.{round_up}
use Rattle.plain_tables.specs.FontHeader.{revision_of}
use Rattle.plain_tables.proofs.FieldRanges.{minor_bounds}
use Rattle.plain_tables.proofs.font_header.revision.Goals as goal

pub returns : goal.returns
unfolding revision_of
returns c =
    let minor : ℤ = c.args.info.now.minor in
    let bounds = minor_bounds minor c.requires.minor_within.low c.requires.minor_within.high in
    let value : c.divide_up-minor.result ≡ round_up (minor *ℤ pos 65536) 1000 = c.divide_up-minor.ensures.value ∙ ap (λ (z : ℤ). round_up z 1000) (omega (arith, ints)) in
    ap Int32 (omega (arith, ints, bounds.0, bounds.1, value))
