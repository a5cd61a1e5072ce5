use Rattle.std.proofs.Common.{◌≡◌, List, ℕ, length, take, drop, sym, ap, subst, ◌∙◌}
use Rattle.be_bytes.specs.Fields.{fields_bytes}
use Rattle.be_bytes.specs.declared.field.Field.{Field}
use Rattle.plain_tables.specs.FixedFields.{AreRead, table_bytes}
use Rattle.plain_tables.specs.FontHeader.{head_fields, head_of}
use Rattle.plain_tables.specs.GlyphMeasures.{extent_of, glyphs_of}
use Rattle.plain_tables.proofs.ExtentRanges.{facts_fit}
use Rattle.plain_tables.specs.declared.measures.Measures.{Measures}
use Rattle.plain_tables.proofs.FieldRanges.{head_adjustment, head_fit, head_follow, head_span}
use Rattle.plain_tables.proofs.FieldReading.{Fits, table_size, whole_read}
use Rattle.std.specs.List.{AllByRecursion}
use Rattle.glyf_loca.specs.declared.extent.Bounds.{Bounds}
use Rattle.fontinfo.specs.declared.info.Info.{Info}
use Rattle.std.specs.Prelude.{Bool}
use Rattle.plain_tables.proofs.font_header.head.Goals as goal

fit : (c : goal.In_ok-bytes) → AllByRecursion (λ own. Fits own.1) (head_of c.args.facts.now)
fit c =
    head_fit c.args.facts.now.info (extent_of (glyphs_of c.args.facts.now)).bounds c.args.facts.now.long c.requires.numbers (facts_fit c.args.facts.now c.requires).bounds

pub returns-clause-written : goal.returns-clause-written
returns-clause-written c =
    let info : Info = c.args.facts.now.info in
    let long : Bool = c.args.facts.now.long in
    c.in_ok-bytes.ensures
    ∙ ap fields_bytes c.head_fields-fields.ensures
    ∙ ap (λ (m : Measures). table_bytes (head_fields info m.extent.bounds long)) c.measured-measures.ensures.value

pub returns-clause-means : goal.returns-clause-means
returns-clause-means c =
    let info : Info = c.args.facts.now.info in
    let long : Bool = c.args.facts.now.long in
    let bounds : Bounds = (extent_of (glyphs_of c.args.facts.now)).bounds in
    subst (AreRead (head_of c.args.facts.now)) (sym (returns-clause-written c)) (whole_read (head_of c.args.facts.now) (head_follow info bounds long) (fit c))

pub returns-clause-size : goal.returns-clause-size
returns-clause-size c =
    ap (λ (bytes : List ℕ). length bytes) (returns-clause-written c) ∙ table_size (head_of c.args.facts.now) (fit c) ∙ head_span _ _ _

pub returns-clause-adjustment : goal.returns-clause-adjustment
returns-clause-adjustment c =
    ap (λ (bytes : List ℕ). take 4 (drop 8 bytes)) (returns-clause-written c) ∙ head_adjustment _ _ _
