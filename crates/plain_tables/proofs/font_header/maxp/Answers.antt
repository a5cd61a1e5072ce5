use Rattle.std.proofs.Common.{◌≡◌, List, ℕ, length, sym, ap, subst, ◌∙◌, arith}
use Rattle.be_bytes.specs.Fields.{fields_bytes}
use Rattle.plain_tables.specs.FixedFields.{AreRead, table_bytes}
use Rattle.plain_tables.specs.FontHeader.{maxp_fields, maxp_of}
use Rattle.plain_tables.specs.GlyphMeasures.{counts_of, glyphs_of}
use Rattle.plain_tables.proofs.ExtentRanges.{counts_fit}
use Rattle.plain_tables.specs.declared.measures.Measures.{Measures}
use Rattle.plain_tables.proofs.FieldRanges.{maxp_fit, maxp_follow, maxp_span}
use Rattle.plain_tables.proofs.FieldReading.{Fits, table_size, whole_read}
use Rattle.std.specs.List.{AllByRecursion}
use Rattle.plain_tables.proofs.font_header.maxp.Goals as goal

fit : (c : goal.In_ok-bytes) → AllByRecursion (λ own. Fits own.1) (maxp_of c.args.facts.now)
fit c =
    maxp_fit (length c.args.facts.now.names) (counts_of (glyphs_of c.args.facts.now)) (omega (arith, c.requires.greatest)) (counts_fit c.args.facts.now c.requires)

pub returns-clause-written : goal.returns-clause-written
returns-clause-written c =
    c.in_ok-bytes.ensures
    ∙ ap fields_bytes c.maxp_fields.ensures
    ∙ ap (λ (n : ℕ). table_bytes (maxp_fields n c.measured-measures.result.counts)) c.len-glyphs.ensures
    ∙ ap (λ (m : Measures). table_bytes (maxp_fields (length c.args.facts.now.names) m.counts)) c.measured-measures.ensures.value

pub returns-clause-means : goal.returns-clause-means
returns-clause-means c =
    subst (AreRead (maxp_of c.args.facts.now)) (sym (returns-clause-written c)) (whole_read (maxp_of c.args.facts.now) (maxp_follow (length c.args.facts.now.names) (counts_of (glyphs_of c.args.facts.now))) (fit c))

pub returns-clause-size : goal.returns-clause-size
returns-clause-size c =
    ap (λ (bytes : List ℕ). length bytes) (returns-clause-written c) ∙ table_size (maxp_of c.args.facts.now) (fit c) ∙ maxp_span _ _
