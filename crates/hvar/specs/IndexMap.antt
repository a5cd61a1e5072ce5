-- Which row of an item variation store each glyph has, where a map tells it (OpenType, "Font variations common table
-- formats", DeltaSetIndexMap).
use Rattle.std.specs.Prelude.{ℕ, zero, suc, ◌+◌, ◌*◌, ◌/◌, ◌%◌, ◌^◌, List, [], ◌∷◌, drop, Option, Some, None, if◌then◌else◌, nat_eq}
use Rattle.basics.specs.Optional.{◌>>=◌}
use Rattle.be_bytes.specs.Reading.{records, uint16, uint32, uint8}

-- a row: the number of its item variation data, and its own in it
pub record RowNumber : Type 0 where
  pub outer : ℕ
  pub inner : ℕ

-- the number that bytes are, after the one that earlier bytes are
abbrev pub number_from : ℕ → List ℕ → ℕ
number_from earlier [] = earlier
number_from earlier (byte ∷ bytes) = number_from (256 * earlier + byte) bytes

-- an entry: of its bits so many low ones are the inner number, and the others the outer one
abbrev pub entry_in : ℕ → List ℕ → Option RowNumber
entry_in inner_bits bytes =
    Some (record { outer = number_from 0 bytes / 2 ^ inner_bits; inner = number_from 0 bytes % 2 ^ inner_bits })

-- entryFormat, of which 0x0F is the number of inner bits less one, and 0x30 the bytes of an entry less one; the entries
-- are from an offset on
abbrev pub entries_in : ℕ → ℕ → ℕ → List ℕ → Option (List RowNumber)
entries_in entry_format count offset bytes =
    records (entry_in (entry_format % 16 + 1)) (entry_format / 16 % 4 + 1) count (drop offset bytes)

-- Format 0 with a count of 16 bits, or format 1 with one of 32.
abbrev pub map_in : List ℕ → Option (List RowNumber)
map_in bytes = do
  format ← uint8 bytes
  entry_format ← uint8 (drop 1 bytes)
  count ← if nat_eq format 0 then uint16 (drop 2 bytes) else (if nat_eq format 1 then uint32 (drop 2 bytes) else None)
  entries_in entry_format count (4 + 2 * format) bytes

-- a glyph's entry; past the end the last one holds
abbrev pub entry_of : List RowNumber → ℕ → Option RowNumber
entry_of [] glyph = None
entry_of (entry ∷ []) glyph = Some entry
entry_of (entry ∷ next ∷ entries) zero = Some entry
entry_of (entry ∷ next ∷ entries) (suc glyph) = entry_of (next ∷ entries) glyph
