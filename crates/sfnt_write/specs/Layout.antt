-- How a font file is written, byte for byte, in pieces: the table directory, and then each table.
use Rattle.std.specs.Prelude.{◌≡◌, ℕ, ◌+◌, ◌-◌, ◌*◌, ◌%◌, ◌^◌, List, [], ◌∷◌, ◌++◌, length, map, take, drop, replicate, if◌then◌else◌, nat_eq}
use Rattle.std.specs.Int.{w32, to_be_bytes}
use Rattle.std.specs.List.{concat, flat_map}
use Rattle.be_bytes.specs.Fields.{fields_bytes}
use Rattle.be_bytes.specs.WordSum.{word_sum}
use Rattle.be_bytes.specs.declared.field.Field.{Field}
use Rattle.be_bytes.specs.declared.field.Field.TheVariants.{Uint16, Uint32}
use Rattle.search_fields.specs.SearchFields.{AreSearchFields}
use Rattle.search_fields.specs.declared.SearchFields.{SearchFields}
use Rattle.sfnt_write.specs.FontFile.{HEAD, TableRecord}
use Rattle.sfnt_write.specs.Tables.{Slice}

-- ---- a table

-- how many zeros fill so many bytes up to a multiple of 4
abbrev pub filling : ℕ → ℕ
filling size = (4 - size % 4) % 4

abbrev pub filled : List ℕ → List ℕ
filled bytes = bytes ++ replicate (filling (length bytes)) 0

-- head's bytes with this checksumAdjustment
abbrev pub with_adjustment : ℕ → List ℕ → List ℕ
with_adjustment n bytes = take 8 bytes ++ (to_be_bytes w32 n ++ drop 4 (drop 8 bytes))

-- head with this checksumAdjustment, and another table as it is
abbrev pub adjusted : ℕ → ℕ → List ℕ → List ℕ
adjusted n tag bytes = if nat_eq tag HEAD then with_adjustment n bytes else bytes

abbrev pub piece_of : ℕ → Slice → List ℕ
piece_of n own = filled (adjusted n own.tag own.bytes)

-- ---- the table directory

-- sfntVersion, numTables, searchRange, entrySelector, rangeShift
unfoldable pub header_fields : ℕ → SearchFields → List Field
header_fields count search =
    Uint32 0x0001_0000 ∷ Uint16 count ∷ Uint16 search.search_range ∷ Uint16 search.entry_selector ∷ Uint16 search.range_shift ∷ []

-- tableTag, checksum, offset, length
unfoldable pub record_fields : TableRecord → List Field
record_fields own = Uint32 own.tag ∷ Uint32 own.checksum ∷ Uint32 own.offset ∷ Uint32 own.size ∷ []

abbrev pub record_bytes : TableRecord → List ℕ
record_bytes own = fields_bytes (record_fields own)

-- the record of a table at this offset; the sum is that of the bytes as they are given, in which head's adjustment is 0
abbrev pub record_at : ℕ → Slice → TableRecord
record_at offset own =
    record { tag = own.tag; checksum = word_sum own.bytes % 2 ^ 32; offset = offset; size = length own.bytes }

-- the records of tables from this offset on, each filled
abbrev pub records_from : ℕ → List Slice → List TableRecord
records_from offset [] = []
records_from offset (own ∷ others) = record_at offset own ∷ records_from (offset + length (filled own.bytes)) others

-- where the tables begin, after so many records
abbrev pub tables_offset : ℕ → ℕ
tables_offset count = 12 + 16 * count

abbrev pub directory_bytes : SearchFields → List Slice → List ℕ
directory_bytes search tables =
    fields_bytes (header_fields (length tables) search) ++ flat_map record_bytes (records_from (tables_offset (length tables)) tables)

-- ---- the file

-- 0xB1B0AFBA less the sum of the file, modulo 2^32
abbrev pub adjustment_of : List ℕ → ℕ
adjustment_of file = (0xB1B0_AFBA + (2 ^ 32 - word_sum file % 2 ^ 32)) % 2 ^ 32

-- the whole file with head's adjustment 0, as it is given
abbrev pub plain_file : SearchFields → List Slice → List ℕ
plain_file search tables = directory_bytes search tables ++ concat (map (λ own. filled own.bytes) tables)

abbrev pub pieces_of : SearchFields → List Slice → List (List ℕ)
pieces_of search tables =
    directory_bytes search tables ∷ map (piece_of (adjustment_of (plain_file search tables))) tables

pub record ArePieces (tables : List Slice) (pieces : List (List ℕ)) : Type 0 where
  pub search : SearchFields
  pub search_are : AreSearchFields 16 (length tables) search
  pub pieces_are : pieces ≡ pieces_of search tables
