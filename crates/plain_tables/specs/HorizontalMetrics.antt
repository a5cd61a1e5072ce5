-- The tables `hhea` and `hmtx` (OpenType, "hhea" and "hmtx").
use Rattle.std.specs.Prelude.{ℕ, ◌-◌, ◌*◌, ℤ, pos, List, [], ◌∷◌, ◌++◌, drop, length, map, Option, Some, None, if◌then◌else◌, nat_eq}
use Rattle.std.specs.Int.RustNames.{unsigned_abs}
use Rattle.std.specs.List.{flat_map}
use Rattle.basics.specs.Optional.{◌>>=◌}
use Rattle.be_bytes.specs.Fields.{fields_bytes}
use Rattle.be_bytes.specs.Reading.{int16, records, uint16}
use Rattle.be_bytes.specs.declared.field.Field.{Field}
use Rattle.be_bytes.specs.declared.field.Field.TheVariants.{Int16, Uint16}
use Rattle.fontinfo.specs.declared.info.Info.{Info}
use Rattle.plain_tables.specs.FixedFields.{word}
use Rattle.plain_tables.specs.GlyphMeasures.{extent_of, glyphs_of, widths_of}
use Rattle.plain_tables.specs.declared.facts.Facts.{Facts}
use Rattle.plain_tables.specs.declared.glyphs.Glyph.{Glyph}
use Rattle.plain_tables.specs.declared.measures.Extent.{Extent}

-- ---- hhea

-- version 1.0, with a metric for each of so many glyphs; the left bearing of a glyph is its xMin
unfoldable pub hhea_fields : Info → Extent → ℤ → ℕ → List (ℕ × Field)
hhea_fields info extent widest glyphs =
    -- majorVersion, minorVersion
    (0, Uint16 1) ∷ (2, Uint16 0)
    -- ascender, descender, lineGap
    ∷ (4, Int16 info.hhea_ascender) ∷ (6, Int16 info.hhea_descender) ∷ (8, Int16 info.hhea_gap)
    -- advanceWidthMax, minLeftSideBearing, minRightSideBearing, xMaxExtent
    ∷ (10, word widest) ∷ (12, Int16 extent.bounds.x_min) ∷ (14, Int16 extent.right) ∷ (16, Int16 extent.bounds.x_max)
    -- caretSlopeRise, caretSlopeRun, caretOffset
    ∷ (18, Int16 (pos 1)) ∷ (20, Int16 (pos 0)) ∷ (22, Int16 (pos 0))
    -- four reserved, metricDataFormat, numberOfHMetrics
    ∷ (24, Int16 (pos 0)) ∷ (26, Int16 (pos 0)) ∷ (28, Int16 (pos 0)) ∷ (30, Int16 (pos 0)) ∷ (32, Int16 (pos 0)) ∷ (34, Uint16 glyphs) ∷ []

abbrev pub hhea_of : Facts → List (ℕ × Field)
hhea_of facts = hhea_fields facts.info (extent_of (glyphs_of facts)) (widths_of (glyphs_of facts)).widest (length facts.names)

-- ---- hmtx

-- a glyph's advance width and its left side bearing, which is its xMin, or 0 without contours
abbrev pub left_bearing : Glyph → ℤ
left_bearing glyph = if nat_eq glyph.contours 0 then pos 0 else glyph.bounds.x_min

abbrev pub metric_of : Glyph → ℕ × ℤ
metric_of glyph = (unsigned_abs glyph.advance, left_bearing glyph)

-- advanceWidth, lsb
abbrev pub metric_fields : ℕ × ℤ → List Field
metric_fields metric = Uint16 metric.0 ∷ Int16 metric.1 ∷ []

abbrev pub metric_bytes : ℕ × ℤ → List ℕ
metric_bytes metric = fields_bytes (metric_fields metric)

abbrev pub metrics_of : Facts → List (ℕ × ℤ)
metrics_of facts = map metric_of (glyphs_of facts)

abbrev pub hmtx_bytes : Facts → List ℕ
hmtx_bytes facts = flat_map metric_bytes (metrics_of facts)

-- a record of an advance width and a left side bearing
abbrev pub metric_in : List ℕ → Option (ℕ × ℤ)
metric_in bytes = do
  advance ← uint16 bytes
  bearing ← int16 (drop 2 bytes)
  Some (advance, bearing)

-- the last of the advance widths, 0 without one
abbrev pub last_advance : List (ℕ × ℤ) → ℕ
last_advance [] = 0
last_advance (metric ∷ []) = metric.0
last_advance (metric ∷ next ∷ metrics) = last_advance (next ∷ metrics)

-- The metric of each of so many glyphs: the first ones, numberOfHMetrics of `hhea`, have records, and each one after
-- them has the advance width of the last record and a left side bearing of its own.
abbrev pub metrics_in : ℕ → ℕ → List ℕ → Option (List (ℕ × ℤ))
metrics_in whole glyphs bytes = do
  metrics ← records metric_in 4 whole bytes
  bearings ← records int16 2 (glyphs - whole) (drop (4 * whole) bytes)
  Some (metrics ++ map (λ bearing. (last_advance metrics, bearing)) bearings)
