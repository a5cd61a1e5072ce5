-- The fields of the tables `head` and `maxp` (OpenType, "head" and "maxp").
use Rattle.std.specs.Prelude.{ℕ, ℤ, pos, ◌+ℤ◌, ◌*ℤ◌, Bool, List, [], ◌∷◌, length, if◌then◌else◌}
use Rattle.be_bytes.specs.declared.field.Field.{Field}
use Rattle.be_bytes.specs.declared.field.Field.TheVariants.{Int16, Int32, Int64, Uint16, Uint32}
use Rattle.fixpoint.specs.Rounding.{round_up}
use Rattle.fontinfo.specs.declared.info.Info.{Info}
use Rattle.glyf_loca.specs.declared.extent.Bounds.{Bounds}
use Rattle.plain_tables.specs.FixedFields.{word}
use Rattle.plain_tables.specs.GlyphMeasures.{counts_of, extent_of, glyphs_of}
use Rattle.plain_tables.specs.declared.facts.Facts.{Facts}
use Rattle.plain_tables.specs.declared.measures.Counts.{Counts}

-- the version as a Fixed, its minor number in thousandths
unfoldable pub revision_of : Info → ℤ
revision_of info = (info.major *ℤ pos 65536) +ℤ round_up (info.minor *ℤ pos 65536) 1000

-- version 1.0
unfoldable pub head_fields : Info → Bounds → Bool → List (ℕ × Field)
head_fields info bounds long =
    -- majorVersion, minorVersion, fontRevision
    (0, Uint16 1) ∷ (2, Uint16 0) ∷ (4, Int32 (revision_of info))
    -- checksumAdjustment, magicNumber
    ∷ (8, Uint32 0) ∷ (12, Uint32 0x5F0F_3CF5)
    -- flags: the baseline is at y 0, the left side bearing at x 0
    ∷ (16, Uint16 3)
    -- unitsPerEm, created, modified
    ∷ (18, word info.units) ∷ (20, Int64 (pos 0)) ∷ (28, Int64 (pos 0))
    -- xMin, yMin, xMax, yMax
    ∷ (36, Int16 bounds.x_min) ∷ (38, Int16 bounds.y_min) ∷ (40, Int16 bounds.x_max) ∷ (42, Int16 bounds.y_max)
    -- macStyle, lowestRecPPEM, fontDirectionHint
    ∷ (44, Uint16 0) ∷ (46, Uint16 6) ∷ (48, Int16 (pos 2))
    -- indexToLocFormat, glyphDataFormat
    ∷ (50, Int16 (if long then pos 1 else pos 0)) ∷ (52, Int16 (pos 0)) ∷ []

abbrev pub head_of : Facts → List (ℕ × Field)
head_of facts = head_fields facts.info (extent_of (glyphs_of facts)).bounds facts.long

-- version 1.0, of so many glyphs
unfoldable pub maxp_fields : ℕ → Counts → List (ℕ × Field)
maxp_fields glyphs counts =
    -- version, numGlyphs, maxPoints, maxContours
    (0, Uint32 0x0001_0000) ∷ (4, Uint16 glyphs) ∷ (6, Uint16 counts.points) ∷ (8, Uint16 counts.contours)
    -- maxCompositePoints, maxCompositeContours
    ∷ (10, Uint16 0) ∷ (12, Uint16 0)
    -- maxZones, maxTwilightPoints, maxStorage, maxFunctionDefs, maxInstructionDefs
    ∷ (14, Uint16 2) ∷ (16, Uint16 0) ∷ (18, Uint16 0) ∷ (20, Uint16 0) ∷ (22, Uint16 0)
    -- maxStackElements, maxSizeOfInstructions, maxComponentElements, maxComponentDepth
    ∷ (24, Uint16 0) ∷ (26, Uint16 0) ∷ (28, Uint16 0) ∷ (30, Uint16 0) ∷ []

abbrev pub maxp_of : Facts → List (ℕ × Field)
maxp_of facts = maxp_fields (length facts.names) (counts_of (glyphs_of facts))
