-- The table of the glyphs' variation data (OpenType, "gvar"), with 32-bit offsets.
use Rattle.std.specs.Prelude.{◌≡◌, ℕ, ℤ, ◌+◌, ◌-◌, ◌*◌, ◌<◌, ◌≤◌, List, length, take, drop, All}
use Rattle.std.specs.Int.{w16, w32, from_be_bytes}
use Rattle.std.specs.List.{flat_map}
use Rattle.variation_rules.specs.Fields.{signed_word}
use Rattle.variation_rules.specs.TupleVariations.{IsTuple}

-- uint16 at an offset
abbrev pub word_in : List ℕ → ℕ → ℕ
word_in bytes place = from_be_bytes w16 (take 2 (drop place bytes))

-- uint32 at an offset
abbrev pub long_in : List ℕ → ℕ → ℕ
long_in bytes place = from_be_bytes w32 (take 4 (drop place bytes))

-- Where a glyph's data begin, counted from the offset of all data. After the last glyph's offset stands one more.
abbrev pub offset_in : List ℕ → ℕ → ℕ
offset_in bytes glyph = long_in bytes (20 + 4 * glyph)

-- the variation data of a glyph
abbrev pub glyph_slice : List ℕ → ℕ → List ℕ
glyph_slice bytes glyph = take (offset_in bytes (glyph + 1) - offset_in bytes glyph) (drop (long_in bytes 16 + offset_in bytes glyph) bytes)

-- The bytes of shared peaks, one coordinate an axis.
abbrev pub peaks_bytes : List (List ℤ) → List ℕ
peaks_bytes peaks = flat_map (λ peak. flat_map signed_word peak) peaks

-- The table of a font of so many axes and so many glyphs, with these shared peaks: its version is 1.0, and from
-- its first offset, which is 0, the offsets rise weakly up to the end of the table.
pub record IsVariationsTable (axes glyphs : ℕ) (peaks : List (List ℤ)) (bytes : List ℕ) : Type 0 where
  pub major : word_in bytes 0 ≡ 1
  pub minor : word_in bytes 2 ≡ 0
  pub axis_count : word_in bytes 4 ≡ axes
  pub peak_count : word_in bytes 6 ≡ length peaks
  pub peak_each : All (IsTuple axes) peaks
  pub peaks_there : take (length (peaks_bytes peaks)) (drop (long_in bytes 8) bytes) ≡ peaks_bytes peaks
  pub glyph_count : word_in bytes 12 ≡ glyphs
  pub flags : word_in bytes 14 ≡ 1
  pub offsets_before : 20 + 4 * (glyphs + 1) ≤ long_in bytes 16
  pub first : offset_in bytes 0 ≡ 0
  pub rise : (glyph : ℕ) → glyph < glyphs → offset_in bytes glyph ≤ offset_in bytes (glyph + 1)
  pub last : long_in bytes 16 + offset_in bytes glyphs ≡ length bytes
