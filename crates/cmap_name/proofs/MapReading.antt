-- The whole character map gives each character's glyph, and its subtables agree.
use Rattle.std.proofs.Common.{◌≡◌, ℕ, ◌+◌, ◌^◌, ◌≤◌, ◌<◌, Bool, true, false, not, ◌||◌, List, [], ◌∷◌, ◌++◌, length, drop, Option, Some, None, refl, sym, ap, subst, ◌∙◌, arith}
use Rattle.std.proofs.lemmas.List.Elements.{recursion_from_All}
use Rattle.std.proofs.lemmas.List.{drop-drop, drop_at}
use Rattle.std.specs.Prelude.{if◌then◌else◌, IsTrue}
use Rattle.std.specs.List.{AllByRecursion, flat_map, list_any}
use Rattle.basics.proofs.Optional.{same_some}
use Rattle.be_bytes.specs.Fields.{fields_bytes}
use Rattle.be_bytes.specs.Reading.{records, uint16, uint32}
use Rattle.be_bytes.specs.declared.field.Field.TheVariants.{Uint16, Uint32}
use Rattle.be_bytes.proofs.FieldLemmas.{uint16-field, uint32-field}
use Rattle.be_bytes.proofs.RecordLemmas.{ComesBack, each_of, records_back}
use Rattle.cmap_name.specs.CharacterLayout.{IsCharacterMap, IsFormat4, cmap_bytes, encoding_bytes, encoding_fields, format_12_bytes, has_basic}
use Rattle.cmap_name.specs.Characters.{Agree, EncodingRecord, encoding_record_in, encoding_records_in, glyph_by, glyph_in, glyph_of_character, offset_of, subtable_in}
use Rattle.cmap_name.specs.Codes.{AreCodes, IsCharacter, glyph_of}
use Rattle.cmap_name.specs.Steps.{FitsBasic, IsMapOf}
use Rattle.cmap_name.specs.Groups.{FitsGroup, basic_codes, exceeds, groups_of}
use Rattle.cmap_name.specs.declared.groups.Group.{Group}
use Rattle.cmap_name.proofs.FormatFour.{basic_size, format_4_back}
use Rattle.cmap_name.proofs.FormatTwelve.{format_12_back}
use Rattle.cmap_name.proofs.GroupLemmas.{LastWithin, basic_all, basic_read, basic_rise, basic_within, groups_count, groups_read, groups_rise, groups_within}

-- ---- the encoding records

pub record FitsEncoding (own : EncodingRecord) : Type 0 where
  pub platform : own.platform < 2 ^ 16
  pub encoding : own.encoding < 2 ^ 16
  pub offset : own.offset < 2 ^ 32

read_encoding : (bytes : List ℕ) (platform encoding offset : ℕ) → uint16 bytes ≡ Some platform → uint16 (drop 2 bytes) ≡ Some encoding → uint32 (drop 4 bytes) ≡ Some offset
    → (let own : EncodingRecord = record { platform = platform; encoding = encoding; offset = offset } in encoding_record_in bytes ≡ Some own)
read_encoding bytes platform encoding offset a b c = rw (a, b, c) refl

encoding_back : (own : EncodingRecord) → FitsEncoding own → ComesBack encoding_bytes encoding_record_in 8 own
unfolding encoding_fields
encoding_back own fits = record {
  size_is = refl;
  back =
      read_encoding (encoding_bytes own) own.platform own.encoding own.offset
      (uint16-field own.platform (fields_bytes (Uint16 own.encoding ∷ Uint32 own.offset ∷ [])) fits.platform)
      (uint16-field own.encoding (fields_bytes (Uint32 own.offset ∷ [])) fits.encoding)
      (uint32-field own.offset [] fits.offset);
}

read_encodings : (bytes : List ℕ) (count : ℕ) (own : List EncodingRecord) → uint16 bytes ≡ Some 0 → uint16 (drop 2 bytes) ≡ Some count → records encoding_record_in 8 count (drop 4 bytes) ≡ Some own → encoding_records_in bytes ≡ Some own
read_encodings bytes count own a b c = rw (a, b, c) refl

encodings_back : (own : List EncodingRecord) (rest : List ℕ) → length own < 2 ^ 16 → AllByRecursion FitsEncoding own → encoding_records_in (fields_bytes (Uint16 0 ∷ Uint16 (length own) ∷ []) ++ (flat_map encoding_bytes own ++ rest)) ≡ Some own
encodings_back own rest few fit =
    read_encodings (fields_bytes (Uint16 0 ∷ Uint16 (length own) ∷ []) ++ (flat_map encoding_bytes own ++ rest)) (length own) own refl
    (uint16-field (length own) [] few)
    (records_back encoding_bytes encoding_record_in 8 own rest (each_of FitsEncoding (ComesBack encoding_bytes encoding_record_in 8) encoding_back own fit))

-- ---- a subtable

abbrev windows : ℕ → ℕ → EncodingRecord
windows encoding offset = record { platform = 3; encoding = encoding; offset = offset }

windows_fits : (encoding offset : ℕ) → encoding < 2 ^ 16 → offset < 2 ^ 32 → FitsEncoding (windows encoding offset)
windows_fits encoding offset a b = record { platform = omega arith; encoding = a; offset = b }

read_character : (bytes : List ℕ) (own : List EncodingRecord) (c : ℕ) → encoding_records_in bytes ≡ Some own → glyph_of_character bytes c ≡ glyph_by bytes (offset_of 10 own) (offset_of 1 own) c
read_character bytes own c a = rw a refl

abbrev drop_some : List ℕ → Option ℕ → Option (List ℕ)
drop_some bytes None = None
drop_some bytes (Some offset) = Some (drop offset bytes)

read_subtable : (bytes : List ℕ) (own : List EncodingRecord) (encoding : ℕ) (offset : Option ℕ) → encoding_records_in bytes ≡ Some own → offset_of encoding own ≡ offset → subtable_in bytes encoding ≡ drop_some bytes offset
read_subtable bytes own encoding None a b = rw (a, b) refl
read_subtable bytes own encoding (Some offset) a b = rw (a, b) refl

absent : {A : Type 0} (o : Option A) (x : A) → o ≡ None → o ≡ Some x → ⊥
absent o x a b = cc

-- ---- the three kinds of map

-- what a map gives, and that its subtables agree
pub record Gives (glyph : ℕ → ℕ) (bytes : List ℕ) : Type 0 where
  pub means : (c : ℕ) → glyph_of_character bytes c ≡ Some (glyph c)
  pub agrees : Agree bytes

pub basic_gives : (glyph : ℕ → ℕ) (own : List ℕ) → ((rest : List ℕ) (c : ℕ) → glyph_in (own ++ rest) c ≡ Some (glyph c)) → Gives glyph (cmap_bytes ((1, own) ∷ []))
unfolding encoding_fields
basic_gives glyph own reads =
    let bytes : List ℕ = cmap_bytes ((1, own) ∷ []) in
    let there : List EncodingRecord = windows 1 12 ∷ [] in
    let found = encodings_back there (own ++ []) (omega arith) (windows_fits 1 12 (omega arith) (omega arith), tt) in
    record {
      means = λ c. read_character bytes there c found ∙ reads [] c;
      agrees = λ whole basic c first second within. absurd (absent (subtable_in bytes 10) whole (read_subtable bytes there 10 None found refl) first);
    }

pub whole_gives : (glyph : ℕ → ℕ) (own : List ℕ) → ((rest : List ℕ) (c : ℕ) → glyph_in (own ++ rest) c ≡ Some (glyph c)) → Gives glyph (cmap_bytes ((10, own) ∷ []))
unfolding encoding_fields
whole_gives glyph own reads =
    let bytes : List ℕ = cmap_bytes ((10, own) ∷ []) in
    let there : List EncodingRecord = windows 10 12 ∷ [] in
    let found = encodings_back there (own ++ []) (omega arith) (windows_fits 10 12 (omega arith) (omega arith), tt) in
    record {
      means = λ c. read_character bytes there c found ∙ reads [] c;
      agrees = λ whole basic c first second within. absurd (absent (subtable_in bytes 1) basic (read_subtable bytes there 1 None found refl) second);
    }

pub both_gives : (glyph : ℕ → ℕ) (basic whole : List ℕ) → length basic < 2 ^ 20 → ((rest : List ℕ) (c : ℕ) → c ≤ 0xFFFE → glyph_in (basic ++ rest) c ≡ Some (glyph c)) → ((rest : List ℕ) (c : ℕ) → glyph_in (whole ++ rest) c ≡ Some (glyph c)) → Gives glyph (cmap_bytes ((1, basic) ∷ (10, whole) ∷ []))
unfolding encoding_fields
both_gives glyph basic whole small reads_basic reads_whole =
    let bytes : List ℕ = cmap_bytes ((1, basic) ∷ (10, whole) ∷ []) in
    let place : ℕ = 20 + length basic in
    let there : List EncodingRecord = windows 1 20 ∷ windows 10 place ∷ [] in
    let found = encodings_back there (basic ++ (whole ++ [])) (omega arith) (windows_fits 1 20 (omega arith) (omega arith), (windows_fits 10 place (omega arith) (omega arith), tt)) in
    let second : drop place bytes ≡ whole ++ [] = sym (drop-drop (length basic) 20 bytes) ∙ drop_at basic (whole ++ []) (length basic) refl in
    let by_whole = λ (c : ℕ). ap (λ (b : List ℕ). glyph_in b c) second ∙ reads_whole [] c in
    record {
      means = λ c. read_character bytes there c found ∙ by_whole c;
      agrees = λ one other c is_one is_other within.
          let of_one : drop place bytes ≡ one = same_some (drop place bytes) one (sym (read_subtable bytes there 10 (Some place) found refl) ∙ is_one) in
          let of_other : drop 20 bytes ≡ other = same_some (drop 20 bytes) other (sym (read_subtable bytes there 1 (Some 20) found refl) ∙ is_other) in
          ap (λ (b : List ℕ). glyph_in b c) (sym of_other) ∙ reads_basic (whole ++ []) c within ∙ sym (by_whole c) ∙ ap (λ (b : List ℕ). glyph_in b c) of_one;
    }

-- ---- which kind it is

either : (any : Bool) → (any || true) ≡ true
either true = refl
either false = refl

no_basic : (there : Bool) (P : Type 0) → there ≡ false → IsTrue there → P
no_basic there P is other = absurd cc

pub is_whole_alone : (codes : List (ℕ × ℕ)) (bytes : List ℕ) → has_basic codes ≡ false → bytes ≡ cmap_bytes ((10, format_12_bytes (groups_of codes)) ∷ []) → IsCharacterMap codes bytes
is_whole_alone codes bytes none is =
    let subtables : Bool → Bool → List (ℕ × List ℕ) = λ there whole. (if there then (1, []) ∷ [] else []) ++ (if whole then (10, format_12_bytes (groups_of codes)) ∷ [] else []) in
    let any : Bool = list_any exceeds codes in
    record {
      basic = [];
      basic_is = no_basic (has_basic codes) (IsFormat4 (groups_of (basic_codes codes)) []) none;
      bytes_are =
          is
          ∙ ap (λ (whole : Bool). cmap_bytes (subtables false whole)) (sym (either any))
          ∙ ap (λ (there : Bool). cmap_bytes (subtables there (any || not there))) (sym none);
    }

pub is_basic_alone : (codes : List (ℕ × ℕ)) (bytes : List ℕ) → has_basic codes ≡ true → list_any exceeds codes ≡ false → IsMapOf (IsFormat4 (groups_of (basic_codes codes))) (λ own. (1, own) ∷ []) bytes → IsCharacterMap codes bytes
is_basic_alone codes bytes basic none is =
    let subtables : Bool → Bool → List (ℕ × List ℕ) = λ there whole. (if there then (1, is.own) ∷ [] else []) ++ (if whole then (10, format_12_bytes (groups_of codes)) ∷ [] else []) in
    record {
      basic = is.own;
      basic_is = λ _. is.holds;
      bytes_are =
          is.bytes_are
          ∙ ap (λ (any : Bool). cmap_bytes (subtables true (any || false))) (sym none)
          ∙ ap (λ (there : Bool). cmap_bytes (subtables there (list_any exceeds codes || not there))) (sym basic);
    }

pub is_both : (codes : List (ℕ × ℕ)) (bytes : List ℕ) → has_basic codes ≡ true → list_any exceeds codes ≡ true → IsMapOf (IsFormat4 (groups_of (basic_codes codes))) (λ own. (1, own) ∷ (10, format_12_bytes (groups_of codes)) ∷ []) bytes → IsCharacterMap codes bytes
is_both codes bytes basic some is =
    let subtables : Bool → Bool → List (ℕ × List ℕ) = λ there whole. (if there then (1, is.own) ∷ [] else []) ++ (if whole then (10, format_12_bytes (groups_of codes)) ∷ [] else []) in
    record {
      basic = is.own;
      basic_is = λ _. is.holds;
      bytes_are =
          is.bytes_are
          ∙ ap (λ (any : Bool). cmap_bytes (subtables true (any || false))) (sym some)
          ∙ ap (λ (there : Bool). cmap_bytes (subtables there (list_any exceeds codes || not there))) (sym basic);
    }

-- ---- what each kind gives

each_fits_basic : (groups : List Group) → AllByRecursion FitsGroup groups → AllByRecursion (LastWithin 0xFFFE) groups → AllByRecursion FitsBasic groups
each_fits_basic [] fit within = tt
each_fits_basic (group ∷ groups) fit within =
    (record { fits = fit.0; basic = within.0 }, each_fits_basic groups fit.1 within.1)

pub basic_fit : (codes : List (ℕ × ℕ)) → AllByRecursion FitsGroup (groups_of (basic_codes codes)) → AllByRecursion FitsBasic (groups_of (basic_codes codes))
basic_fit codes fit =
    each_fits_basic (groups_of (basic_codes codes)) fit (groups_within 0xFFFE (basic_codes codes) (basic_within codes))

each_unicode : (codes : List (ℕ × ℕ)) → AllByRecursion IsCharacter codes → AllByRecursion (λ own. own.0 ≤ 0x10_FFFF) codes
each_unicode [] each = tt
each_unicode (own ∷ codes) each = (each.0.unicode, each_unicode codes each.1)

pub few_groups : (codes : List (ℕ × ℕ)) → AreCodes codes → length (groups_of codes) ≤ 0x11_0000
few_groups codes are =
    let each = each_unicode codes (recursion_from_All IsCharacter codes are.each) in
    let few = groups_count 0 0x10_FFFF (groups_of codes) (omega arith) (groups_rise 0 codes are.rise) (groups_within 0x10_FFFF codes each) in
    omega (arith, few)

whole_reads : (codes : List (ℕ × ℕ)) → AreCodes codes → AllByRecursion FitsGroup (groups_of codes) → (rest : List ℕ) (c : ℕ) → glyph_in (format_12_bytes (groups_of codes) ++ rest) c ≡ Some (glyph_of codes c)
whole_reads codes are fit rest c =
    format_12_back (groups_of codes) rest c (few_groups codes are) fit ∙ ap Some (groups_read 0 codes c are.rise)

basic_reads : (codes : List (ℕ × ℕ)) (own : List ℕ) → AreCodes codes → length (groups_of (basic_codes codes)) + 1 ≤ 8189 → AllByRecursion FitsGroup (groups_of (basic_codes codes)) → IsFormat4 (groups_of (basic_codes codes)) own → (rest : List ℕ) (c : ℕ) → glyph_in (own ++ rest) c ≡ Some (glyph_of (basic_codes codes) c)
basic_reads codes own are few fit is rest c =
    let rise = basic_rise 0 codes are.rise in
    ap (λ (b : List ℕ). glyph_in (b ++ rest) c) is.bytes_are
    ∙ format_4_back is.search 0 (groups_of (basic_codes codes)) rest c few (groups_rise 0 (basic_codes codes) rise) (basic_fit codes fit)
    ∙ ap Some (groups_read 0 (basic_codes codes) c rise)

pub whole_means : (codes : List (ℕ × ℕ)) (bytes : List ℕ) → AreCodes codes → AllByRecursion FitsGroup (groups_of codes) → bytes ≡ cmap_bytes ((10, format_12_bytes (groups_of codes)) ∷ []) → Gives (glyph_of codes) bytes
whole_means codes bytes are fit is =
    subst (Gives (glyph_of codes)) (sym is) (whole_gives (glyph_of codes) (format_12_bytes (groups_of codes)) (whole_reads codes are fit))

pub basic_means : (codes : List (ℕ × ℕ)) (bytes : List ℕ) → AreCodes codes → length (groups_of (basic_codes codes)) + 1 ≤ 8189 → AllByRecursion FitsGroup (groups_of (basic_codes codes)) → list_any exceeds codes ≡ false → IsMapOf (IsFormat4 (groups_of (basic_codes codes))) (λ own. (1, own) ∷ []) bytes → Gives (glyph_of codes) bytes
basic_means codes bytes are few fit none is =
    let same = basic_all codes (recursion_from_All IsCharacter codes are.each) none in
    subst (Gives (glyph_of codes)) (sym is.bytes_are)
    (basic_gives (glyph_of codes) is.own (λ rest c. basic_reads codes is.own are few fit is.holds rest c ∙ ap (λ (all : List (ℕ × ℕ)). Some (glyph_of all c)) same))

pub both_means : (codes : List (ℕ × ℕ)) (bytes : List ℕ) → AreCodes codes → length (groups_of (basic_codes codes)) + 1 ≤ 8189 → AllByRecursion FitsGroup (groups_of (basic_codes codes)) → AllByRecursion FitsGroup (groups_of codes) → IsMapOf (IsFormat4 (groups_of (basic_codes codes))) (λ own. (1, own) ∷ (10, format_12_bytes (groups_of codes)) ∷ []) bytes → Gives (glyph_of codes) bytes
both_means codes bytes are few fit_basic fit is =
    let size = basic_size (groups_of (basic_codes codes)) is.own is.holds in
    subst (Gives (glyph_of codes)) (sym is.bytes_are)
    (both_gives (glyph_of codes) is.own (format_12_bytes (groups_of codes)) (omega (arith, size, few))
    (λ rest c within. basic_reads codes is.own are few fit_basic is.holds rest c ∙ ap Some (basic_read 0 codes c are.rise within))
    (whole_reads codes are fit))
