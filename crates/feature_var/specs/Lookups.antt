-- The lookups of single substitution (OpenType, "GSUB", "Lookup type 1" and "Lookup type 7"). What a lookup does is a
-- list of pairs, each a glyph and the one that replaces it, of which the first that has a glyph counts.
use Rattle.std.specs.Prelude.{ℕ, pos, ◌+ℤ◌, ◌&&◌, List, drop, length, map, Option, Some, None, if◌then◌else◌, nat_eq}
use Rattle.std.specs.Int.{w16, cast_unsigned}
use Rattle.std.specs.List.{flat_map, zip}
use Rattle.basics.specs.Optional.{◌>>=◌, each}
use Rattle.be_bytes.specs.Reading.{int16, records, uint16, uint32}
use Rattle.feature_var.specs.Coverage.{coverage_in}

-- ---- single substitution

-- format 1: deltaGlyphID, which is added modulo 65536
abbrev pub shifted_in : List ℕ → List ℕ → Option (List (ℕ × ℕ))
shifted_in covered bytes = int16 (drop 4 bytes) >>= λ delta. Some (map (λ glyph. (glyph, cast_unsigned w16 (pos glyph +ℤ delta))) covered)

-- format 2: glyphCount, and a glyph for each that is covered
abbrev pub listed_in : List ℕ → List ℕ → Option (List (ℕ × ℕ))
listed_in covered bytes = do
  count ← uint16 (drop 4 bytes)
  glyphs ← records uint16 2 count (drop 6 bytes)
  if nat_eq count (length covered) then Some (zip covered glyphs) else None

-- substFormat, coverageOffset, and what the format has
abbrev pub single_in : List ℕ → Option (List (ℕ × ℕ))
single_in bytes = do
  format ← uint16 bytes
  offset ← uint16 (drop 2 bytes)
  covered ← coverage_in (drop offset bytes)
  if nat_eq format 1 then shifted_in covered bytes else (if nat_eq format 2 then listed_in covered bytes else None)

-- ---- lookups

-- substFormat, which is 1, extensionLookupType, which is 1, and extensionOffset
abbrev pub extension_in : List ℕ → Option (List (ℕ × ℕ))
extension_in bytes = do
  format ← uint16 bytes
  type ← uint16 (drop 2 bytes)
  offset ← uint32 (drop 4 bytes)
  if nat_eq format 1 && nat_eq type 1 then single_in (drop offset bytes) else None

-- a subtable of a lookup of this type
abbrev pub subtable_in : ℕ → List ℕ → Option (List (ℕ × ℕ))
subtable_in type bytes = if nat_eq type 1 then single_in bytes else (if nat_eq type 7 then extension_in bytes else None)

-- lookupType; lookupFlag, of which nothing is set; subTableCount, and the offsets of the subtables. Of the subtables the
-- first that covers a glyph counts.
abbrev pub lookup_in : List ℕ → Option (List (ℕ × ℕ))
lookup_in bytes = do
  type ← uint16 bytes
  flag ← uint16 (drop 2 bytes)
  count ← uint16 (drop 4 bytes)
  offsets ← records uint16 2 count (drop 6 bytes)
  subtables ← each (λ offset. subtable_in type (drop offset bytes)) offsets
  if nat_eq flag 0 then Some (flat_map (λ pairs. pairs) subtables) else None

-- the lookup list: lookupCount, and the offsets of the lookups
abbrev pub lookups_in : List ℕ → Option (List (List (ℕ × ℕ)))
lookups_in bytes = do
  count ← uint16 bytes
  offsets ← records uint16 2 count (drop 2 bytes)
  each (λ offset. lookup_in (drop offset bytes)) offsets
