-- The tables that are given to be a font.
use Rattle.std.specs.Prelude.{◌≡◌, ℕ, ◌+◌, ◌^◌, ◌<◌, ◌≤◌, List, [], ◌∷◌, length, take, drop, Option, Some, None, if◌then◌else◌, nat_eq}
use Rattle.std.specs.Int.{w32, from_be_bytes}
use Rattle.std.specs.List.{sum_by}
use Rattle.sfnt_write.specs.FontFile.{HEAD}
use Rattle.sfnt_write.specs.declared.table.Table.{Table}

-- the number that four letters write
unfoldable pub tag_number : List ℕ → ℕ
tag_number letters = from_be_bytes w32 letters

-- a table's tag and its bytes
pub record Slice : Type 0 where
  pub tag : ℕ
  pub bytes : List ℕ

abbrev pub slice_of : Table → Slice
slice_of table = record { tag = tag_number table.tag; bytes = table.bytes.items }

abbrev pub bytes_of : ℕ → List Slice → Option (List ℕ)
bytes_of tag [] = None
bytes_of tag (own ∷ others) = if nat_eq own.tag tag then Some own.bytes else bytes_of tag others

-- tags rise, from this one on
abbrev pub Rise : ℕ → List Slice → Type 0
Rise tag [] = Unit {0}
Rise tag (own ∷ others) = (tag ≤ own.tag) × Rise (own.tag + 1) others

-- the bytes of all tables
abbrev pub total_size : List Slice → ℕ
total_size tables = sum_by (λ own. length own.bytes) tables

-- 54 bytes, with checksumAdjustment 0
pub record IsPlainHead (bytes : List ℕ) : Type 0 where
  pub size : length bytes ≡ 54
  pub adjustment : take 4 (drop 8 bytes) ≡ 0 ∷ 0 ∷ 0 ∷ 0 ∷ []

-- what a font can be made of
pub record CanBeFont (tables : List Slice) : Type 0 where
  pub rise : Rise 0 tables
  pub few : length tables ≤ 32
  pub small : total_size tables < 2 ^ 31
  pub head : List ℕ
  pub head_there : bytes_of HEAD tables ≡ Some head
  pub head_plain : IsPlainHead head
