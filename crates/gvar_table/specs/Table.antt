-- How the table of the glyphs' variation data is written (OpenType, "gvar"): 32-bit offsets, no shared peaks,
-- the glyphs' data one after another.
use Rattle.std.specs.Prelude.{◌≡◌, ℕ, ◌+◌, ◌*◌, ◌^◌, ◌<◌, ◌≤◌, List, [], ◌∷◌, ◌++◌, length, map}
use Rattle.std.specs.Int.{w32, to_be_bytes}
use Rattle.std.specs.List.{flat_map, AllZip}
use Rattle.variation_rules.specs.Fields.{word}
use Rattle.gvar_table.specs.declared.tuple.Tuple.{Tuple}
use Rattle.gvar_table.specs.Layout.{IsWritten}
use Rattle.gvar_table.specs.Tuples.{AreTuplesOf, variation_of}

-- the counts of points, each taken once for each tuple of its glyph
abbrev pub points_in_tuples : List ℕ → List (List Tuple) → ℕ
points_in_tuples (count ∷ counts) (tuples ∷ glyphs) = count * length tuples + points_in_tuples counts glyphs
points_in_tuples _ _ = 0

-- the tuples of the glyphs of a font of so many axes, with the number of points of each glyph
pub record AreGlyphsOf (axes : ℕ) (counts : List ℕ) (glyphs : List (List Tuple)) : Type 0 where
  pub some_axes : 0 < axes
  pub few_axes : axes ≤ 8
  pub few : length glyphs ≤ 32510
  pub each : AllZip (AreTuplesOf axes) counts glyphs
  pub small : points_in_tuples counts glyphs ≤ 16777216

-- uint32
abbrev pub long : ℕ → List ℕ
long n = to_be_bytes w32 n

-- where each glyph's data end, one after another from one on
abbrev pub ends_from : ℕ → List (List ℕ) → List ℕ
ends_from at [] = []
ends_from at (own ∷ more) = (at + length own) ∷ ends_from (at + length own) more

-- the offsets
abbrev pub offset_bytes : List (List ℕ) → List ℕ
offset_bytes blocks = flat_map long (0 ∷ ends_from 0 blocks)

-- all data
abbrev pub joined : List (List ℕ) → List ℕ
joined blocks = flat_map (λ own. own) blocks

-- the offset after the header and the offsets
abbrev pub data_offset : ℕ → ℕ
data_offset glyphs = 24 + 4 * glyphs

-- version 1.0, the axes, no shared peaks and their offset, the glyphs, the flag of 32-bit offsets, the offset of the data
unfoldable pub table_header : ℕ → ℕ → List ℕ
table_header axes glyphs = word 1 ++ (word 0 ++ (word axes ++ (word 0 ++ (long (data_offset glyphs) ++ (word glyphs ++ (word 1 ++ long (data_offset glyphs)))))))

-- the data of each glyph
abbrev pub AreAllWritten : List ℕ → List (List Tuple) → List (List ℕ) → Type 0
AreAllWritten [] [] [] = Unit {0}
AreAllWritten (count ∷ counts) (tuples ∷ glyphs) (own ∷ blocks) = IsWritten count own (map variation_of tuples) × AreAllWritten counts glyphs blocks
AreAllWritten _ _ _ = ⊥

pub record IsWrittenTable (axes : ℕ) (counts : List ℕ) (glyphs : List (List Tuple)) (bytes : List ℕ) : Type 0 where
  pub blocks : List (List ℕ)
  pub each : AreAllWritten counts glyphs blocks
  pub small : length (joined blocks) < 2 ^ 32
  pub spelled : bytes ≡ table_header axes (length blocks) ++ (offset_bytes blocks ++ joined blocks)

-- one glyph more after the offsets and the data that are written
pub record AddsGlyph (count : ℕ) (tuples : List Tuple) (offsets new_offsets body new_body : List ℕ) : Type 0 where
  pub own : List ℕ
  pub is_written : IsWritten count own (map variation_of tuples)
  pub short : length own ≤ 4 + 23 * (count * length tuples)
  pub body_after : new_body ≡ body ++ own
  pub offset_after : new_offsets ≡ offsets ++ long (length body + length own)
