-- The table of the names is read back as it was written.
use Rattle.std.proofs.Common.{◌≡◌, ℕ, ◌+◌, ◌*◌, ◌^◌, ◌≤◌, ◌<◌, true, List, [], ◌∷◌, ◌++◌, length, length-append, drop, sum_by, Some, refl, sym, ap, ◌∙◌, append_assoc, arith}
use Rattle.std.proofs.lemmas.List.{drop-drop, drop_at}
use Rattle.std.proofs.lemmas.List.Elements.{recursion_from_All}
use Rattle.std.proofs.lemmas.List.Sums.{sum_by-cons}
use Rattle.std.specs.Prelude.{All}
use Rattle.std.specs.List.{AllByRecursion, flat_map}
use Rattle.be_bytes.specs.Reading.{prefix_of, records, uint16}
use Rattle.be_bytes.proofs.FieldLemmas.{uint16-field}
use Rattle.be_bytes.proofs.RecordLemmas.{ComesBack, each_of, prefix_at, records_back, records_size}
use Rattle.font_text.specs.Utf16.{utf16_length}
use Rattle.cmap_name.specs.NameLayout.{name_bytes, name_fields, name_record_bytes, name_records_from, text_bytes}
use Rattle.cmap_name.specs.Names.{AreNames, NameRecord, is_english, name_record_in, names_from, names_in, text_in}
use Rattle.cmap_name.specs.Steps.{IsName}
use Rattle.cmap_name.proofs.UnitLemmas.{text_back, text_size}

-- ---- a record

pub record FitsRecord (own : NameRecord) : Type 0 where
  pub platform : own.platform < 2 ^ 16
  pub encoding : own.encoding < 2 ^ 16
  pub language : own.language < 2 ^ 16
  pub id : own.id < 2 ^ 16
  pub size : own.size < 2 ^ 16
  pub offset : own.offset < 2 ^ 16

read_record : (bytes : List ℕ) (platform encoding language id size offset : ℕ) → uint16 bytes ≡ Some platform → uint16 (drop 2 bytes) ≡ Some encoding → uint16 (drop 4 bytes) ≡ Some language → uint16 (drop 6 bytes) ≡ Some id → uint16 (drop 8 bytes) ≡ Some size → uint16 (drop 10 bytes) ≡ Some offset
    → (let own : NameRecord = record { platform = platform; encoding = encoding; language = language; id = id; size = size; offset = offset } in name_record_in bytes ≡ Some own)
read_record bytes platform encoding language id size offset a b c d e f = rw (a, b, c, d, e, f) refl

record_back : (own : NameRecord) → FitsRecord own → ComesBack name_record_bytes name_record_in 12 own
unfolding name_fields
record_back own fits = record {
  size_is = refl;
  back =
      read_record (name_record_bytes own) own.platform own.encoding own.language own.id own.size own.offset
      (uint16-field own.platform [] fits.platform) (uint16-field own.encoding [] fits.encoding) (uint16-field own.language [] fits.language)
      (uint16-field own.id [] fits.id) (uint16-field own.size [] fits.size) (uint16-field own.offset [] fits.offset);
}

-- the bytes of UTF-16 of a name's text
abbrev pub size_of : ℕ × List ℕ → ℕ
size_of own = 2 * utf16_length own.1

records_fit : (offset : ℕ) (names : List (ℕ × List ℕ)) → AllByRecursion IsName names → offset + sum_by size_of names ≤ 65535 → AllByRecursion FitsRecord (name_records_from offset names)
records_fit offset [] each small = tt
records_fit offset (own ∷ names) each small =
    let size = text_size own.1 in
    let total = sum_by-cons size_of own names in (
      record { platform = omega arith; encoding = omega arith; language = omega arith; id = each.0.id; size = omega (arith, size, total, small); offset = omega (arith, small) },
      records_fit (offset + length (text_bytes own.1)) names each.1 (omega (arith, size, total, small)),
    )

records_count : (offset : ℕ) (names : List (ℕ × List ℕ)) → length (name_records_from offset names) ≡ length names
records_count offset [] = refl
records_count offset (own ∷ names) = omega (arith, records_count (offset + length (text_bytes own.1)) names)

-- ---- the texts

abbrev pub all_texts : List (ℕ × List ℕ) → List ℕ
all_texts names = flat_map (λ own. text_bytes own.1) names

read_name : (texts : List ℕ) (own : NameRecord) (others : List NameRecord) (bytes text : List ℕ) (names : List (ℕ × List ℕ)) → is_english own ≡ true → prefix_of own.size (drop own.offset texts) ≡ Some bytes → text_in bytes ≡ Some text → names_from texts others ≡ Some names → names_from texts (own ∷ others) ≡ Some ((own.id, text) ∷ names)
read_name texts own others bytes text names a b c d = rw (a, b, c, d) refl

texts_found : (texts before : List ℕ) (offset : ℕ) (names : List (ℕ × List ℕ)) → texts ≡ before ++ all_texts names → length before ≡ offset → AllByRecursion IsName names → names_from texts (name_records_from offset names) ≡ Some names
texts_found texts before offset [] spelled size each = refl
texts_found texts before offset (own ∷ names) spelled size each =
    let bytes : List ℕ = text_bytes own.1 in
    let there : drop offset texts ≡ bytes ++ all_texts names = ap (drop offset) spelled ∙ drop_at before (bytes ++ all_texts names) offset size in
    let later : names_from texts (name_records_from (offset + length bytes) names) ≡ Some names =
    texts_found texts (before ++ bytes) (offset + length bytes) names (spelled ∙ sym (append_assoc before bytes (all_texts names))) (omega (arith, length-append before bytes)) each.1 in
    read_name texts (record { platform = 3; encoding = 1; language = 0x0409; id = own.0; size = length bytes; offset = offset }) (name_records_from (offset + length bytes) names) bytes own.1 names
    refl
    (ap (prefix_of (length bytes)) there ∙ prefix_at bytes (all_texts names) (length bytes) refl)
    (text_back own.1 each.0.text)
    later

-- ---- the table

read_names : (bytes : List ℕ) (count storage : ℕ) (own : List NameRecord) (names : List (ℕ × List ℕ)) → uint16 bytes ≡ Some 0 → uint16 (drop 2 bytes) ≡ Some count → uint16 (drop 4 bytes) ≡ Some storage → records name_record_in 12 count (drop 6 bytes) ≡ Some own → names_from (drop storage bytes) own ≡ Some names → names_in bytes ≡ Some names
read_names bytes count storage own names a b c d e = rw (a, b, c, d, e) refl

pub name_back : (names : List (ℕ × List ℕ)) → AreNames names → All IsName names → names_in (name_bytes names) ≡ Some names
name_back names are all =
    let n : ℕ = length names in
    let each = recursion_from_All IsName names all in
    let own : List NameRecord = name_records_from 0 names in
    let listed : List ℕ = flat_map name_record_bytes own in
    let back = each_of FitsRecord (ComesBack name_record_bytes name_record_in 12) record_back own (records_fit 0 names each (omega (arith, are.small))) in
    let count = records_count 0 names in
    let size : length listed ≡ 12 * n = omega (arith, records_size name_record_bytes name_record_in 12 own back, count) in
    let storage : drop (6 + 12 * n) (name_bytes names) ≡ all_texts names = sym (drop-drop (12 * n) 6 (name_bytes names)) ∙ drop_at listed (all_texts names) (12 * n) size in
    read_names (name_bytes names) n (6 + 12 * n) own names refl
    (uint16-field n [] (omega (arith, are.few)))
    (uint16-field (6 + 12 * n) [] (omega (arith, are.few)))
    (ap (λ k. records name_record_in 12 k (listed ++ all_texts names)) (sym count) ∙ records_back name_record_bytes name_record_in 12 own (all_texts names) back)
    (ap (λ (b : List ℕ). names_from b own) storage ∙ texts_found (all_texts names) [] 0 names refl refl each)

-- ---- one record on

pub one_record_more : (old new whole : List ℕ) (offset next size : ℕ) (own : ℕ × List ℕ) (names others : List (ℕ × List ℕ)) → names ≡ own ∷ others
    → new ≡ old ++ name_record_bytes (record { platform = 3; encoding = 1; language = 0x0409; id = own.0; size = size; offset = offset }) → size ≡ 2 * utf16_length own.1 → next ≡ offset + size
    → old ++ flat_map name_record_bytes (name_records_from offset names) ≡ whole → new ++ flat_map name_record_bytes (name_records_from next others) ≡ whole
one_record_more old new whole offset next size own names others left is sized on before =
    let there : size ≡ length (text_bytes own.1) = sized ∙ sym (text_size own.1) in
    let at : ℕ → NameRecord = λ n. record { platform = 3; encoding = 1; language = 0x0409; id = own.0; size = n; offset = offset } in
    let later : ℕ → List ℕ = λ n. flat_map name_record_bytes (name_records_from n others) in
    ap (λ (b : List ℕ). b ++ later next) is
    ∙ ap (λ n. (old ++ name_record_bytes (at size)) ++ later n) (on ∙ ap (λ n. offset + n) there)
    ∙ ap (λ n. (old ++ name_record_bytes (at n)) ++ later (offset + length (text_bytes own.1))) there
    ∙ append_assoc old (name_record_bytes (at (length (text_bytes own.1)))) (later (offset + length (text_bytes own.1)))
    ∙ ap (λ (ns : List (ℕ × List ℕ)). old ++ flat_map name_record_bytes (name_records_from offset ns)) (sym left)
    ∙ before

pub room_left : (own : ℕ × List ℕ) (names others : List (ℕ × List ℕ)) → names ≡ own ∷ others → sum_by size_of names ≡ 2 * utf16_length own.1 + sum_by size_of others
room_left own names others left = ap (sum_by size_of) left ∙ sum_by-cons size_of own others
