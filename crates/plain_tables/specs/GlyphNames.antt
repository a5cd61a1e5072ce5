-- The table `post` (OpenType, "post", version 2.0).
use Rattle.std.specs.Prelude.{ℕ, zero, suc, ◌+◌, ◌-◌, ◌*◌, List, [], ◌∷◌, ◌++◌, drop, length, Option, Some, None, if◌then◌else◌, nat_eq, nat_lt}
use Rattle.std.specs.List.{flat_map}
use Rattle.basics.specs.Optional.{◌>>=◌, each}
use Rattle.be_bytes.specs.Fields.{field_bytes}
use Rattle.be_bytes.specs.Reading.{prefix_of, records, uint8, uint16, uint32}
use Rattle.be_bytes.specs.declared.field.Field.{Field}
use Rattle.be_bytes.specs.declared.field.Field.TheVariants.{Int16, Int32, Uint8, Uint16, Uint32}
use Rattle.fontinfo.specs.declared.info.Info.{Info}
use Rattle.plain_tables.specs.FixedFields.{table_bytes}
use Rattle.plain_tables.specs.declared.facts.Facts.{Facts}

-- ---- as it is written

-- version 2.0, of so many glyphs
unfoldable pub post_fields : Info → ℕ → List (ℕ × Field)
post_fields info glyphs =
    -- version, italicAngle, underlinePosition, underlineThickness
    (0, Uint32 0x0002_0000) ∷ (4, Int32 info.italic) ∷ (8, Int16 info.underline_at) ∷ (10, Int16 info.underline_size)
    -- isFixedPitch, minMemType42, maxMemType42, minMemType1, maxMemType1
    ∷ (12, Uint32 0) ∷ (16, Uint32 0) ∷ (20, Uint32 0) ∷ (24, Uint32 0) ∷ (28, Uint32 0)
    -- numGlyphs
    ∷ (32, Uint16 glyphs) ∷ []

abbrev pub post_of : Facts → List (ℕ × Field)
post_of facts = post_fields facts.info (length facts.names)

-- so many numbers one after another, from one on
abbrev pub numbers_from : ℕ → ℕ → List ℕ
numbers_from first zero = []
numbers_from first (suc count) = first ∷ numbers_from (first + 1) count

abbrev pub index_bytes : ℕ → List ℕ
index_bytes index = field_bytes (Uint16 index)

-- a name after its length
abbrev pub name_bytes : List ℕ → List ℕ
name_bytes name = field_bytes (Uint8 (length name)) ++ name

-- the fields, glyphNameIndex, stringData; the first name of the font's own has the index 258
abbrev pub post_bytes : Facts → List ℕ
post_bytes facts =
    table_bytes (post_of facts) ++ (flat_map index_bytes (numbers_from 258 (length facts.names)) ++ flat_map name_bytes facts.names)

-- ---- as it is read

-- a name after its length
abbrev pub name_in : List ℕ → Option (List ℕ)
name_in bytes = do
  size ← uint8 bytes
  prefix_of size (drop 1 bytes)

-- of names one after another the one after so many
abbrev pub name_after : ℕ → List ℕ → Option (List ℕ)
name_after zero bytes = name_in bytes
name_after (suc count) bytes = do
  size ← uint8 bytes
  name_after count (drop (1 + size) bytes)

-- The name of an index. The first 258 are those of the standard's own list, and aren't read; the names in the table
-- follow them.
abbrev pub name_of : List ℕ → ℕ → Option (List ℕ)
name_of strings index = if nat_lt index 258 then None else name_after (index - 258) strings

-- the name of each glyph, by its index
abbrev pub names_in : List ℕ → Option (List (List ℕ))
names_in bytes = do
  version ← uint32 bytes
  glyphs ← uint16 (drop 32 bytes)
  indexes ← records uint16 2 glyphs (drop 34 bytes)
  names ← each (name_of (drop (34 + 2 * glyphs) bytes)) indexes
  if nat_eq version 0x0002_0000 then Some names else None
