-- The table directory is read back as it was written.
use Rattle.std.proofs.Common.{◌≡◌, ℕ, ◌+◌, ◌*◌, ◌^◌, ◌<◌, ◌≤◌, List, [], ◌∷◌, ◌++◌, length, drop, Some, refl, sym, ap, ◌∙◌, arith, length-append, append_assoc}
use Rattle.std.proofs.lemmas.List.Sums.{sum_by-cons}
use Rattle.std.specs.List.{AllByRecursion, flat_map}
use Rattle.be_bytes.specs.Fields.{fields_bytes}
use Rattle.be_bytes.specs.Reading.{records, uint16, uint32}
use Rattle.be_bytes.specs.declared.field.Field.TheVariants.{Uint16, Uint32}
use Rattle.be_bytes.proofs.FieldLemmas.{uint16-field, uint32-field}
use Rattle.be_bytes.proofs.RecordLemmas.{ComesBack, each_of, records_back}
use Rattle.search_fields.specs.declared.SearchFields.{SearchFields}
use Rattle.sfnt_write.specs.FontFile.{TableRecord, directory_in, table_record_in}
use Rattle.sfnt_write.specs.Layout.{directory_bytes, filled, header_fields, record_bytes, record_fields, records_from, tables_offset}
use Rattle.sfnt_write.specs.Steps.{FitsTag}
use Rattle.sfnt_write.specs.Tables.{Slice, total_size}
use Rattle.sfnt_write.proofs.WordSums.{filled_size}

-- ---- a record

pub record FitsRecord (own : TableRecord) : Type 0 where
  pub tag : own.tag < 2 ^ 32
  pub checksum : own.checksum < 2 ^ 32
  pub offset : own.offset < 2 ^ 32
  pub size : own.size < 2 ^ 32

read_record : (bytes : List ℕ) (a b c d : ℕ) → uint32 bytes ≡ Some a → uint32 (drop 4 bytes) ≡ Some b → uint32 (drop 8 bytes) ≡ Some c → uint32 (drop 12 bytes) ≡ Some d → table_record_in bytes ≡ Some (record { tag = a; checksum = b; offset = c; size = d })
read_record bytes a b c d p q r s = rw (p, q, r, s) refl

record_back : (own : TableRecord) → FitsRecord own → ComesBack record_bytes table_record_in 16 own
unfolding record_fields
record_back own fits =
    record {
      size_is = refl;
      back =
          read_record (record_bytes own) own.tag own.checksum own.offset own.size
          (uint32-field own.tag (fields_bytes (Uint32 own.checksum ∷ Uint32 own.offset ∷ Uint32 own.size ∷ [])) fits.tag)
          (uint32-field own.checksum (fields_bytes (Uint32 own.offset ∷ Uint32 own.size ∷ [])) fits.checksum)
          (uint32-field own.offset (fields_bytes (Uint32 own.size ∷ [])) fits.offset)
          (uint32-field own.size [] fits.size);
    }

record_size : (own : TableRecord) → length (record_bytes own) ≡ 16
unfolding record_fields
record_size own = refl

-- ---- all records

records_size : (records : List TableRecord) → length (flat_map record_bytes records) ≡ 16 * length records
records_size [] = refl
records_size (own ∷ others) =
    omega (arith, length-append (record_bytes own) (flat_map record_bytes others), record_size own, records_size others)

pub records_count : (offset : ℕ) (tables : List Slice) → length (records_from offset tables) ≡ length tables
records_count offset [] = refl
records_count offset (own ∷ others) = omega (arith, records_count (offset + length (filled own.bytes)) others)

records_fit : (offset : ℕ) (tables : List Slice) → AllByRecursion FitsTag tables → offset + total_size tables + 3 * length tables < 2 ^ 32 → AllByRecursion FitsRecord (records_from offset tables)
records_fit offset [] tags room = tt
records_fit offset (own ∷ others) tags room =
    let size = filled_size own.bytes in
    let total : total_size (own ∷ others) ≡ length own.bytes + total_size others = sum_by-cons (λ (table : Slice). length table.bytes) own others in (
      record { tag = tags.0; checksum = omega arith; offset = omega arith; size = omega (arith, total) },
      records_fit (offset + length (filled own.bytes)) others tags.1 (omega (arith, size, total)),
    )

-- ---- the directory

header_size : (count : ℕ) (search : SearchFields) → length (fields_bytes (header_fields count search)) ≡ 12
unfolding header_fields
header_size count search = refl

pub directory_size : (search : SearchFields) (tables : List Slice) → length (directory_bytes search tables) ≡ tables_offset (length tables)
directory_size search tables =
    let records : List TableRecord = records_from (tables_offset (length tables)) tables in
    omega (arith, length-append (fields_bytes (header_fields (length tables) search)) (flat_map record_bytes records), header_size (length tables) search, records_size records, records_count (tables_offset (length tables)) tables)

read_directory : (file : List ℕ) (count : ℕ) (directory : List TableRecord) → uint16 (drop 4 file) ≡ Some count → records table_record_in 16 count (drop 12 file) ≡ Some directory → directory_in file ≡ Some directory
read_directory file count directory p q = rw (p, q) refl

header_read : (count : ℕ) (search : SearchFields) (rest : List ℕ) → count < 2 ^ 16 → (uint16 (drop 4 (fields_bytes (header_fields count search) ++ rest)) ≡ Some count) × (drop 12 (fields_bytes (header_fields count search) ++ rest) ≡ rest)
unfolding header_fields
header_read count search rest fits =
    (uint16-field count (fields_bytes (Uint16 search.search_range ∷ Uint16 search.entry_selector ∷ Uint16 search.range_shift ∷ []) ++ rest) fits, refl)

pub directory_read : (search : SearchFields) (tables : List Slice) (rest : List ℕ) → length tables ≤ 32 → total_size tables < 2 ^ 31 → AllByRecursion FitsTag tables → directory_in (directory_bytes search tables ++ rest) ≡ Some (records_from (tables_offset (length tables)) tables)
directory_read search tables rest few small tags =
    let count : ℕ = length tables in
    let directory : List TableRecord = records_from (tables_offset count) tables in
    let written : List ℕ = flat_map record_bytes directory in
    let header : List ℕ = fields_bytes (header_fields count search) in
    let each = each_of FitsRecord (ComesBack record_bytes table_record_in 16) record_back directory (records_fit (tables_offset count) tables tags (omega arith)) in
    let header_there = header_read count search (written ++ rest) (omega arith) in
    ap directory_in (append_assoc header written rest)
    ∙ read_directory (header ++ (written ++ rest)) count directory header_there.0
    (ap (records table_record_in 16 count) header_there.1
    ∙ ap (λ (n : ℕ). records table_record_in 16 n (written ++ rest)) (sym (records_count (tables_offset count) tables))
    ∙ records_back record_bytes table_record_in 16 directory rest each)
