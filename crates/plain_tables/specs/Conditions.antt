-- What can be told of a font in these tables.
use Rattle.std.specs.Prelude.{◌≡◌, ℕ, ◌+◌, ◌*◌, ◌≤◌, ℤ, pos, negsuc, ◌≤ℤ◌, List, [], ◌∷◌, length, All}
use Rattle.fontinfo.specs.FontInfo.{AreNumbersWithin}
use Rattle.glyf_loca.specs.declared.extent.Bounds.{Bounds}
use Rattle.plain_tables.specs.declared.facts.Facts.{Facts}
use Rattle.plain_tables.specs.declared.glyphs.Glyph.{Glyph}
use Rattle.plain_tables.specs.declared.measures.Widths.{Widths}

-- a name takes 1 to 63 bytes
pub record IsNameWithin (name : List ℕ) : Type 0 where
  pub least : 1 ≤ length name
  pub greatest : length name ≤ 63

-- an advance width is in 0 .. 16383
pub record IsAdvanceWithin (advance : ℤ) : Type 0 where
  pub least : pos 0 ≤ℤ advance
  pub greatest : advance ≤ℤ pos 16383

-- each bound is a coordinate, in -16384 .. 16383
pub record AreBoundsWithin (bounds : Bounds) : Type 0 where
  pub least_x_min : negsuc 16383 ≤ℤ bounds.x_min
  pub greatest_x_min : bounds.x_min ≤ℤ pos 16383
  pub least_y_min : negsuc 16383 ≤ℤ bounds.y_min
  pub greatest_y_min : bounds.y_min ≤ℤ pos 16383
  pub least_x_max : negsuc 16383 ≤ℤ bounds.x_max
  pub greatest_x_max : bounds.x_max ≤ℤ pos 16383
  pub least_y_max : negsuc 16383 ≤ℤ bounds.y_max
  pub greatest_y_max : bounds.y_max ≤ℤ pos 16383

-- at most 4,000 points, in contours of one point at least
pub record AreLengthsWithin (lengths : ℕ × ℕ) : Type 0 where
  pub points : lengths.0 ≤ 4000
  pub contours : lengths.1 ≤ lengths.0

-- each code is above the one before it, from one on
abbrev pub CodesRise : ℕ → List (ℕ × ℕ) → Type 0
CodesRise from [] = Unit {0}
CodesRise from (own ∷ codes) = (from ≤ own.0) × CodesRise (own.0 + 1) codes

-- one name, advance, bounds and pair of lengths for each of 1 to 32,510 glyphs, all within limits; the numbers of the
-- font information in the ranges of their keys; codes that rise
pub record AreFacts (facts : Facts) : Type 0 where
  pub least : 1 ≤ length facts.names
  pub greatest : length facts.names ≤ 32510
  pub advance_each : length facts.advances ≡ length facts.names
  pub bounds_each : length facts.bounds ≡ length facts.names
  pub lengths_each : length facts.lengths ≡ length facts.names
  pub names : All IsNameWithin facts.names
  pub advances : All IsAdvanceWithin facts.advances
  pub bounds : All AreBoundsWithin facts.bounds
  pub lengths : All AreLengthsWithin facts.lengths
  pub numbers : AreNumbersWithin facts.info
  pub codes : CodesRise 0 facts.codes

-- ---- of parts of them

pub record IsGlyphWithin (glyph : Glyph) : Type 0 where
  pub advance : IsAdvanceWithin glyph.advance
  pub bounds : AreBoundsWithin glyph.bounds

-- of advance widths within limits: the greatest, and the sum of those above 0
pub record AreWidthsWithin (widths : Widths) : Type 0 where
  pub widest : IsAdvanceWithin widths.widest
  pub least : pos 0 ≤ℤ widths.sum
  pub greatest : widths.sum ≤ℤ pos (16383 * widths.count)
