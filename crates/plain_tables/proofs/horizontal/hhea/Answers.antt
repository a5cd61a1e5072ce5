use Rattle.std.proofs.Common.{◌≡◌, List, ℕ, ℤ, length, sym, ap, subst, ◌∙◌, arith, to_z, of_z}
use Rattle.std.proofs.lemmas.Int.{ints}
use Rattle.std.specs.Int.{w32}
use Rattle.be_bytes.specs.Fields.{fields_bytes}
use Rattle.plain_tables.specs.Conditions.{IsAdvanceWithin}
use Rattle.plain_tables.specs.FixedFields.{AreRead, table_bytes}
use Rattle.plain_tables.specs.HorizontalMetrics.{hhea_fields, hhea_of}
use Rattle.plain_tables.specs.GlyphMeasures.{extent_of, glyphs_of, widths_of}
use Rattle.plain_tables.proofs.ExtentRanges.{facts_fit}
use Rattle.plain_tables.specs.declared.measures.Extent.{Extent}
use Rattle.plain_tables.specs.declared.measures.Measures.{Measures}
use Rattle.plain_tables.proofs.FieldRanges.{hhea_fit, hhea_follow, hhea_span}
use Rattle.plain_tables.proofs.FieldReading.{Fits, table_size, whole_read}
use Rattle.std.specs.List.{AllByRecursion}
use Rattle.fontinfo.specs.declared.info.Info.{Info}
use Rattle.plain_tables.proofs.horizontal.hhea.Goals as goal

fit : (c : goal.In_ok-bytes) → AllByRecursion (λ own. Fits own.1) (hhea_of c.args.facts.now)
fit c =
    let extent : Extent = extent_of (glyphs_of c.args.facts.now) in
    let widest : ℤ = (widths_of (glyphs_of c.args.facts.now)).widest in
    let wide : IsAdvanceWithin widest = subst (λ (m : Measures). IsAdvanceWithin m.widths.widest) c.measured-measures.ensures.value c.measured-measures.ensures.within.widest in
    hhea_fit c.args.facts.now.info extent widest (length c.args.facts.now.names) c.requires.numbers (facts_fit c.args.facts.now c.requires) wide (omega (arith, c.requires.greatest))

pub returns-clause-written : goal.returns-clause-written
returns-clause-written c =
    let info : Info = c.args.facts.now.info in
    let own : Measures = c.measured-measures.result in
    let within = c.measured-measures.ensures.within.widest in
    let plain : to_z w32 (of_z w32 own.widths.widest) ≡ own.widths.widest = omega (arith, ints, within.least, within.greatest) in
    c.in_ok-bytes.ensures
    ∙ ap fields_bytes c.hhea_fields-fields.ensures
    ∙ ap (λ (z : ℤ). table_bytes (hhea_fields info own.extent z c.len-glyphs.result)) plain
    ∙ ap (λ (n : ℕ). table_bytes (hhea_fields info own.extent own.widths.widest n)) c.len-glyphs.ensures
    ∙ ap (λ (m : Measures). table_bytes (hhea_fields info m.extent m.widths.widest (length c.args.facts.now.names))) c.measured-measures.ensures.value

pub returns-clause-means : goal.returns-clause-means
returns-clause-means c =
    subst (AreRead (hhea_of c.args.facts.now)) (sym (returns-clause-written c)) (whole_read (hhea_of c.args.facts.now) (hhea_follow _ _ _ _) (fit c))

pub returns-clause-size : goal.returns-clause-size
returns-clause-size c =
    ap (λ (bytes : List ℕ). length bytes) (returns-clause-written c) ∙ table_size (hhea_of c.args.facts.now) (fit c) ∙ hhea_span _ _ _ _
