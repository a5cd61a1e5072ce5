use Rattle.std.proofs.Common.{◌≡◌, ℕ, ℤ, Bool, List, ◌++◌, length, FitsSigned, sym, ap, subst, ◌∙◌, arith, to_z, of_z}
use Rattle.std.proofs.lemmas.Int.{ints}
use Rattle.std.specs.Int.{w16}
use Rattle.std.specs.List.{AllByRecursion}
use Rattle.be_bytes.specs.Fields.{fields_bytes}
use Rattle.be_bytes.specs.declared.field.Field.{Field}
use Rattle.fontinfo.specs.declared.info.Info.{Info}
use Rattle.glyf_loca.specs.declared.extent.Bounds.{Bounds}
use Rattle.plain_tables.specs.FixedFields.{AreRead, table_bytes}
use Rattle.plain_tables.specs.GlyphMeasures.{average_of, extent_of, glyphs_of, measures_of, widths_of}
use Rattle.plain_tables.specs.StyleMetrics.{class_fields, line_fields, os2_fields, os2_of}
use Rattle.plain_tables.specs.declared.measures.Measures.{Measures}
use Rattle.plain_tables.proofs.ExtentRanges.{facts_fit}
use Rattle.plain_tables.proofs.FieldRanges.{class_fit, line_fit, os2_follow, os2_span}
use Rattle.plain_tables.proofs.FieldReading.{Fits, fit_append, table_append, table_size, whole_read}
use Rattle.plain_tables.proofs.style.os2.Goals as goal

average_there : (c : goal.In_ok-put_fields-2) → c.average-average.result ≡ average_of (widths_of (glyphs_of c.args.facts.now))
average_there c = c.average-average.ensures ∙ ap (λ (m : Measures). average_of m.widths) c.measured-measures.ensures.value

fit : (c : goal.In_ok-put_fields-2) → AllByRecursion (λ own. Fits own.1) (os2_of c.args.facts.now)
fit c =
    let info : Info = c.args.facts.now.info in
    let average : ℤ = average_of (widths_of (glyphs_of c.args.facts.now)) in
    let bounds : Bounds = (extent_of (glyphs_of c.args.facts.now)).bounds in
    let codes : List (ℕ × ℕ) = c.args.facts.now.codes in
    let substitutes : Bool = c.args.facts.now.substitutes in
    let fits : FitsSigned w16 c.average-average.result = omega (arith, ints) in
    fit_append (class_fields info average) (line_fields info bounds codes substitutes)
    (class_fit info average c.requires.numbers (subst (FitsSigned w16) (average_there c) fits))
    (line_fit info bounds codes substitutes c.requires.numbers (facts_fit c.args.facts.now c.requires).bounds c.line_fields.ensures.vendor)

pub returns-clause-written : goal.returns-clause-written
returns-clause-written c =
    let info : Info = c.args.facts.now.info in
    let substitutes : Bool = c.args.facts.now.substitutes in
    let average : ℤ = average_of (widths_of (glyphs_of c.args.facts.now)) in
    let codes : List (ℕ × ℕ) = c.as_slice-codes.result.now in
    let own : Measures = c.measured-measures.result in
    let read : ℤ = to_z w16 (of_z w16 c.average-average.result) in
    let plain : read ≡ c.average-average.result = omega (arith, ints) in
    let first : List Field = c.class_fields.result in
    let second : List Field = c.line_fields.result in
    c.in_ok-put_fields-2.ensures
    ∙ ap (λ (bytes : List ℕ). bytes ++ fields_bytes second) c.in_ok-put_fields.ensures
    ∙ ap (λ (bytes : List ℕ). (bytes ++ fields_bytes first) ++ fields_bytes second) c.new-bytes.ensures.items
    ∙ ap (λ (fields : List Field). fields_bytes fields ++ fields_bytes second) c.class_fields.ensures
    ∙ ap (λ (fields : List Field). table_bytes (class_fields info read) ++ fields_bytes fields) c.line_fields.ensures.value
    ∙ table_append (class_fields info read) (line_fields info own.extent.bounds codes substitutes)
    ∙ ap (λ (z : ℤ). table_bytes (os2_fields info z own.extent.bounds codes substitutes)) (plain ∙ average_there c)
    ∙ ap (λ (m : Measures). table_bytes (os2_fields info average m.extent.bounds codes substitutes)) c.measured-measures.ensures.value
    ∙ ap (λ (all : List (ℕ × ℕ)). table_bytes (os2_fields info average (extent_of (glyphs_of c.args.facts.now)).bounds all substitutes)) c.as_slice-codes.ensures

pub returns-clause-means : goal.returns-clause-means
returns-clause-means c =
    let info : Info = c.args.facts.now.info in
    let average : ℤ = average_of (widths_of (glyphs_of c.args.facts.now)) in
    let bounds : Bounds = (extent_of (glyphs_of c.args.facts.now)).bounds in
    subst (AreRead (os2_of c.args.facts.now)) (sym (returns-clause-written c))
    (whole_read (os2_of c.args.facts.now) (os2_follow info average bounds c.args.facts.now.codes c.args.facts.now.substitutes) (fit c))

pub returns-clause-size : goal.returns-clause-size
returns-clause-size c =
    ap (λ (bytes : List ℕ). length bytes) (returns-clause-written c) ∙ table_size (os2_of c.args.facts.now) (fit c) ∙ os2_span _ _ _ _ _
