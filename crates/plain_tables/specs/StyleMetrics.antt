-- The fields of the table `OS/2` (OpenType, "OS/2", version 4).
use Rattle.std.specs.Prelude.{ℕ, min, ℤ, pos, neg_ℤ, ◌*ℤ◌, Bool, List, [], ◌∷◌, ◌++◌, map, Option, Some, None, if◌then◌else◌}
use Rattle.std.specs.Int.{int_max}
use Rattle.std.specs.Int.RustNames.{unsigned_abs}
use Rattle.be_bytes.specs.declared.field.Field.{Field}
use Rattle.be_bytes.specs.declared.field.Field.TheVariants.{Int16, Tag, Uint8, Uint16, Uint32}
use Rattle.fixpoint.specs.Rounding.{round_up}
use Rattle.fontinfo.specs.declared.info.Info.{Info}
use Rattle.glyf_loca.specs.Bounds.{greatest, least}
use Rattle.glyf_loca.specs.declared.extent.Bounds.{Bounds}
use Rattle.plain_tables.specs.FixedFields.{word}
use Rattle.plain_tables.specs.GlyphMeasures.{average_of, extent_of, glyphs_of, widths_of}
use Rattle.plain_tables.specs.declared.facts.Facts.{Facts}

-- ---- values

-- so many hundredths, or thousandths, of a number, rounded to the nearest number, a tie going up
abbrev pub hundredths : ℕ → ℤ → ℤ
hundredths part z = round_up (pos part *ℤ z) 100

abbrev pub thousandths : ℕ → ℤ → ℤ
thousandths part z = round_up (pos part *ℤ z) 1000

-- all codes
abbrev pub codes_of : List (ℕ × ℕ) → List ℤ
codes_of codes = map (λ own. pos own.0) codes

-- a code, or 0xFFFF in place of a greater one
abbrev pub cut : ℤ → Field
cut code = Uint16 (min (unsigned_abs code) 0xFFFF)

-- the height that is told, or how far glyphs reach where none is told, which is 0 at least
abbrev pub clipped : Option ℤ → ℤ → ℤ
clipped (Some height) reach = height
clipped None reach = int_max (pos 0) reach

-- ---- the fields

-- classes of style, and parts of the em
unfoldable pub class_fields : Info → ℤ → List (ℕ × Field)
class_fields info average =
    -- version, xAvgCharWidth, usWeightClass, usWidthClass, fsType
    (0, Uint16 4) ∷ (2, Int16 average) ∷ (4, word info.weight) ∷ (6, word info.width) ∷ (8, Uint16 0)
    -- ySubscriptXSize, ySubscriptYSize, ySubscriptXOffset, ySubscriptYOffset
    ∷ (10, Int16 (hundredths 65 info.units)) ∷ (12, Int16 (hundredths 60 info.units)) ∷ (14, Int16 (pos 0)) ∷ (16, Int16 (thousandths 75 info.units))
    -- ySuperscriptXSize, ySuperscriptYSize, ySuperscriptXOffset, ySuperscriptYOffset
    ∷ (18, Int16 (hundredths 65 info.units)) ∷ (20, Int16 (hundredths 60 info.units)) ∷ (22, Int16 (pos 0)) ∷ (24, Int16 (hundredths 35 info.units))
    -- yStrikeoutSize, yStrikeoutPosition, sFamilyClass
    ∷ (26, Int16 info.underline_size) ∷ (28, Int16 (hundredths 60 info.x_height)) ∷ (30, Int16 (pos 0))
    -- panose
    ∷ (32, Uint8 0) ∷ (33, Uint8 0) ∷ (34, Uint8 0) ∷ (35, Uint8 0) ∷ (36, Uint8 0) ∷ (37, Uint8 0) ∷ (38, Uint8 0) ∷ (39, Uint8 0) ∷ (40, Uint8 0) ∷ (41, Uint8 0) ∷ []

-- what the font covers, and its lines
unfoldable pub line_fields : Info → Bounds → List (ℕ × ℕ) → Bool → List (ℕ × Field)
line_fields info bounds codes substitutes =
    -- ulUnicodeRange1, ulUnicodeRange2, ulUnicodeRange3, ulUnicodeRange4
    (42, Uint32 0) ∷ (46, Uint32 0) ∷ (50, Uint32 0) ∷ (54, Uint32 0)
    -- achVendID; fsSelection: regular
    ∷ (58, Tag info.vendor) ∷ (62, Uint16 0x0040)
    -- usFirstCharIndex, usLastCharIndex
    ∷ (64, cut (least (codes_of codes))) ∷ (66, cut (greatest (codes_of codes)))
    -- sTypoAscender, sTypoDescender, sTypoLineGap
    ∷ (68, Int16 info.typo_ascender) ∷ (70, Int16 info.typo_descender) ∷ (72, Int16 info.typo_gap)
    -- usWinAscent, usWinDescent
    ∷ (74, word (clipped info.win_ascent bounds.y_max)) ∷ (76, word (clipped info.win_descent (neg_ℤ bounds.y_min)))
    -- ulCodePageRange1, ulCodePageRange2
    ∷ (78, Uint32 0) ∷ (82, Uint32 0)
    -- sxHeight, sCapHeight
    ∷ (86, Int16 info.x_height) ∷ (88, Int16 info.cap_height)
    -- usDefaultChar, usBreakChar, usMaxContext
    ∷ (90, Uint16 0) ∷ (92, Uint16 32) ∷ (94, Uint16 (if substitutes then 1 else 0)) ∷ []

abbrev pub os2_fields : Info → ℤ → Bounds → List (ℕ × ℕ) → Bool → List (ℕ × Field)
os2_fields info average bounds codes substitutes = class_fields info average ++ line_fields info bounds codes substitutes

abbrev pub os2_of : Facts → List (ℕ × Field)
os2_of facts = os2_fields facts.info (average_of (widths_of (glyphs_of facts))) (extent_of (glyphs_of facts)).bounds facts.codes facts.substitutes
