-- A font file by its reader (OpenType, "Organization of an OpenType font", "Table directory" and "Calculating
-- checksums"). A tag is the number that its four letters write. A reading is a function, so that a file has one table
-- of a tag at most.
use Rattle.std.specs.Prelude.{◌≡◌, ℕ, ◌+◌, ◌*◌, ◌%◌, ◌^◌, ◌≤◌, List, [], ◌∷◌, ◌++◌, length, take, drop, Option, Some, None, if◌then◌else◌, nat_eq}
use Rattle.basics.specs.Optional.{◌>>=◌}
use Rattle.be_bytes.specs.Reading.{prefix_of, records, uint16, uint32}
use Rattle.be_bytes.specs.WordSum.{word_sum}

-- ---- the tables

-- a record of the table directory
pub record TableRecord : Type 0 where
  pub tag : ℕ
  pub checksum : ℕ
  pub offset : ℕ
  pub size : ℕ

abbrev pub table_record_in : List ℕ → Option TableRecord
table_record_in bytes = do
  tag ← uint32 bytes
  checksum ← uint32 (drop 4 bytes)
  offset ← uint32 (drop 8 bytes)
  size ← uint32 (drop 12 bytes)
  Some (record { tag = tag; checksum = checksum; offset = offset; size = size })

-- numTables, and so many records after the search fields
abbrev pub directory_in : List ℕ → Option (List TableRecord)
directory_in file = do
  count ← uint16 (drop 4 file)
  records table_record_in 16 count (drop 12 file)

-- the record of a tag
abbrev pub record_of : ℕ → List TableRecord → Option TableRecord
record_of tag [] = None
record_of tag (own ∷ others) = if nat_eq own.tag tag then Some own else record_of tag others

-- the bytes that a record names
abbrev pub slice_in : List ℕ → TableRecord → Option (List ℕ)
slice_in file own = prefix_of own.size (drop own.offset file)

-- the table of a tag
abbrev pub table_in : List ℕ → ℕ → Option (List ℕ)
table_in file tag = do
  directory ← directory_in file
  own ← record_of tag directory
  slice_in file own

-- ---- a whole font file

-- the tag 'head'
abbrev pub HEAD : ℕ
HEAD = 0x6865_6164

-- the four bytes from an offset on, taken as 0
abbrev pub with_zeros : ℕ → List ℕ → List ℕ
with_zeros offset bytes = take offset bytes ++ (0 ∷ 0 ∷ 0 ∷ 0 ∷ drop 4 (drop offset bytes))

-- the sum of a table's words, head's with checksumAdjustment taken as 0
abbrev pub checksum_of : ℕ → List ℕ → ℕ
checksum_of tag bytes = word_sum (if nat_eq tag HEAD then with_zeros 8 bytes else bytes) % 2 ^ 32

-- A table that stands in the file at a multiple of 4, with its tag and its offset not below these, and with the
-- checksum of its bytes.
pub record Stands (file : List ℕ) (tag offset : ℕ) (own : TableRecord) : Type 0 where
  pub rises : tag ≤ own.tag
  pub after_others : offset ≤ own.offset
  pub aligned : own.offset % 4 ≡ 0
  pub within : own.offset + own.size ≤ length file
  pub bytes : List ℕ
  pub there : slice_in file own ≡ Some bytes
  pub summed : own.checksum ≡ checksum_of own.tag bytes

-- tables whose tags rise and that stand one after another, from a tag and an offset on
abbrev pub StandInOrder : List ℕ → ℕ → ℕ → List TableRecord → Type 0
StandInOrder file tag offset [] = Unit {0}
StandInOrder file tag offset (own ∷ others) =
    Stands file tag offset own × StandInOrder file (own.tag + 1) (own.offset + own.size) others

pub record IsFontFile (file : List ℕ) : Type 0 where
  pub directory : List TableRecord
  pub directory_there : directory_in file ≡ Some directory
  pub tables : StandInOrder file 0 (12 + 16 * length directory) directory
  pub head : TableRecord
  pub head_there : record_of HEAD directory ≡ Some head
  pub head_whole : 12 ≤ head.size
  -- checksumAdjustment
  pub adjustment : ℕ
  pub adjustment_there : uint32 (drop (head.offset + 8) file) ≡ Some adjustment
  -- it is 0xB1B0AFBA less the sum of the whole file with this field 0, modulo 2^32
  pub adjusted : (adjustment + word_sum (with_zeros (head.offset + 8) file)) % 2 ^ 32 ≡ 0xB1B0_AFBA
