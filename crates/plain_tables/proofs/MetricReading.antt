-- The metrics of glyphs are read back as they were written.
use Rattle.std.proofs.Common.{◌≡◌, ℕ, ◌+◌, ◌-◌, ◌*◌, ◌^◌, ◌<◌, ℤ, pos, negsuc, ◌≤ℤ◌, Bool, true, false, List, [], ◌∷◌, ◌++◌, length, drop, map, Some, FitsSigned, refl, sym, ap, ◌∙◌, arith}
use Rattle.std.proofs.lemmas.Int.{ints}
use Rattle.std.proofs.lemmas.List.{append-nil, length-map}
use Rattle.std.specs.Prelude.{if◌then◌else◌, nat_eq}
use Rattle.std.specs.Int.{w16}
use Rattle.std.specs.Int.RustNames.{unsigned_abs}
use Rattle.std.specs.List.{AllByRecursion, flat_map}
use Rattle.be_bytes.specs.Fields.{fields_bytes}
use Rattle.be_bytes.specs.Reading.{int16, records, uint16}
use Rattle.be_bytes.specs.declared.field.Field.TheVariants.{Int16}
use Rattle.be_bytes.proofs.FieldLemmas.{int16-field, uint16-field}
use Rattle.be_bytes.proofs.RecordLemmas.{ComesBack, records_back, records_size}
use Rattle.plain_tables.specs.Conditions.{AreFacts, IsGlyphWithin}
use Rattle.plain_tables.specs.GlyphMeasures.{glyphs_of}
use Rattle.plain_tables.specs.HorizontalMetrics.{hmtx_bytes, last_advance, left_bearing, metric_bytes, metric_in, metric_of, metrics_in, metrics_of}
use Rattle.plain_tables.specs.declared.facts.Facts.{Facts}
use Rattle.plain_tables.specs.declared.glyphs.Glyph.{Glyph}
use Rattle.plain_tables.proofs.GlyphLemmas.{glyphs_count, glyphs_within}

-- ---- a metric

read_metric : (bytes : List ℕ) (advance : ℕ) (bearing : ℤ) → uint16 bytes ≡ Some advance → int16 (drop 2 bytes) ≡ Some bearing → metric_in bytes ≡ Some (advance, bearing)
read_metric bytes advance bearing a b = rw (a, b) refl

pair_back : (metric : ℕ × ℤ) → metric.0 < 2 ^ 16 → FitsSigned w16 metric.1 → ComesBack metric_bytes metric_in 4 metric
pair_back metric advance bearing = record {
  size_is = refl;
  back = read_metric (metric_bytes metric) metric.0 metric.1 (uint16-field metric.0 (fields_bytes (Int16 metric.1 ∷ [])) advance) (int16-field metric.1 [] bearing);
}

bearing_fits : (none : Bool) (z : ℤ) → FitsSigned w16 z → FitsSigned w16 (if none then pos 0 else z)
bearing_fits true z fits = omega (arith, ints)
bearing_fits false z fits = fits

advance_fits : (z : ℤ) → pos 0 ≤ℤ z → z ≤ℤ pos 16383 → unsigned_abs z < 2 ^ 16
advance_fits (pos n) low high = omega (arith, ints)
advance_fits (negsuc n) low high = absurd (omega (arith, ints))

metric_back : (glyph : Glyph) → IsGlyphWithin glyph → ComesBack metric_bytes metric_in 4 (metric_of glyph)
metric_back glyph own =
    pair_back (metric_of glyph) (advance_fits glyph.advance own.advance.least own.advance.greatest)
    (bearing_fits (nat_eq glyph.contours 0) glyph.bounds.x_min (omega (arith, ints, own.bounds.least_x_min, own.bounds.greatest_x_min)))

each_back : (glyphs : List Glyph) → AllByRecursion IsGlyphWithin glyphs → AllByRecursion (ComesBack metric_bytes metric_in 4) (map metric_of glyphs)
each_back [] each = tt
each_back (glyph ∷ glyphs) each = (metric_back glyph each.0, each_back glyphs each.1)

-- ---- the table

read_metrics : (whole glyphs : ℕ) (bytes : List ℕ) (metrics : List (ℕ × ℤ)) (bearings : List ℤ) → records metric_in 4 whole bytes ≡ Some metrics → records int16 2 (glyphs - whole) (drop (4 * whole) bytes) ≡ Some bearings → metrics_in whole glyphs bytes ≡ Some (metrics ++ map (λ bearing. (last_advance metrics, bearing)) bearings)
read_metrics whole glyphs bytes metrics bearings a b = rw (a, b) refl

all_whole : (metrics : List (ℕ × ℤ)) (count : ℕ) → length metrics ≡ count → AllByRecursion (ComesBack metric_bytes metric_in 4) metrics → metrics_in count count (flat_map metric_bytes metrics) ≡ Some metrics
all_whole metrics count counted each =
    let bytes : List ℕ = flat_map metric_bytes metrics in
    let none : count - count ≡ 0 = omega arith in
    read_metrics count count bytes metrics []
    (ap (λ (n : ℕ). records metric_in 4 n bytes) (sym counted)
    ∙ ap (records metric_in 4 (length metrics)) (sym (append-nil bytes))
    ∙ records_back metric_bytes metric_in 4 metrics [] each)
    (ap (λ (n : ℕ). records int16 2 n (drop (4 * count) bytes)) none)
    ∙ ap Some (append-nil metrics)

metrics_count : (facts : Facts) → AreFacts facts → length (metrics_of facts) ≡ length facts.names
metrics_count facts own = length-map (glyphs_of facts) metric_of ∙ glyphs_count facts own

pub hmtx_back : (facts : Facts) → AreFacts facts → metrics_in (length facts.names) (length facts.names) (hmtx_bytes facts) ≡ Some (metrics_of facts)
hmtx_back facts own = all_whole (metrics_of facts) (length facts.names) (metrics_count facts own) (each_back (glyphs_of facts) (glyphs_within facts own))

pub hmtx_size : (facts : Facts) → AreFacts facts → length (hmtx_bytes facts) ≡ 4 * length facts.names
hmtx_size facts own =
    records_size metric_bytes metric_in 4 (metrics_of facts) (each_back (glyphs_of facts) (glyphs_within facts own)) ∙ ap (λ (n : ℕ). 4 * n) (metrics_count facts own)
