-- The script, the feature, and the features that take its place, are read back as they were written.
use Rattle.std.proofs.Common.{◌≡◌, ℕ, ◌+◌, ◌*◌, ◌^◌, ◌<◌, List, [], ◌∷◌, ◌++◌, length, drop, Option, Some, refl, arith}
use Rattle.std.specs.Prelude.{codes}
use Rattle.std.specs.List.{AllByRecursion, flat_map}
use Rattle.be_bytes.specs.Fields.{fields_bytes}
use Rattle.be_bytes.specs.Reading.{records, uint16}
use Rattle.be_bytes.specs.declared.field.Field.TheVariants.{Tag, Uint16, Uint32}
use Rattle.be_bytes.proofs.FieldLemmas.{uint16-field}
use Rattle.be_bytes.proofs.RecordLemmas.{ComesBack, records_back}
use Rattle.feature_var.specs.Features.{feature_in, features_in, language_in, scripts_in, tagged_in}
use Rattle.feature_var.specs.Layout.{alternate_bytes, alternate_fields, feature_fields, script_fields, word_bytes}
use Rattle.feature_var.specs.Variations.{alternate_record_in, alternates_in}
use Rattle.feature_var.proofs.Places.{IsWord, array_size, words_back}

-- an array of one record
pub one_back : {A : Type 0} (spell : A → List ℕ) (read : List ℕ → Option A) (size : ℕ) (x : A) (rest : List ℕ) → ComesBack spell read size x → records read size 1 ((spell x ++ []) ++ rest) ≡ Some (x ∷ [])
one_back spell read size x rest back = records_back spell read size (x ∷ []) rest (back, tt)

-- ---- features

read_feature : (bytes : List ℕ) (count : ℕ) (numbers : List ℕ) → uint16 bytes ≡ Some 0 → uint16 (drop 2 bytes) ≡ Some count → records uint16 2 count (drop 4 bytes) ≡ Some numbers → feature_in bytes ≡ Some numbers
read_feature bytes count numbers a b c = rw (a, b, c) refl

feature_back : (count : ℕ) (numbers rest : List ℕ) → length numbers ≡ count → count < 2 ^ 16 → AllByRecursion IsWord numbers → feature_in (fields_bytes (Uint16 0 ∷ Uint16 count ∷ []) ++ (flat_map word_bytes numbers ++ rest)) ≡ Some numbers
feature_back count numbers rest counted few fit =
    read_feature (fields_bytes (Uint16 0 ∷ Uint16 count ∷ []) ++ (flat_map word_bytes numbers ++ rest)) count numbers refl (uint16-field count (flat_map word_bytes numbers ++ rest) few) (words_back count numbers rest counted fit)

-- a tag of four letters with an offset
abbrev tagged_bytes : List ℕ × ℕ → List ℕ
tagged_bytes entry = fields_bytes (Tag entry.0 ∷ Uint16 entry.1 ∷ [])

eight_back : (a b c d : ℕ) → ComesBack tagged_bytes tagged_in 6 (a ∷ b ∷ c ∷ d ∷ [], 8)
eight_back a b c d = record { size_is = refl; back = refl }

read_features : (bytes letters : List ℕ) (offset : ℕ) (lookups : List ℕ) → uint16 bytes ≡ Some 1 → records tagged_in 6 1 (drop 2 bytes) ≡ Some ((letters, offset) ∷ []) → feature_in (drop offset bytes) ≡ Some lookups
    → features_in bytes ≡ Some (record { tag = letters; lookups = lookups } ∷ [])
read_features bytes letters offset lookups a b c = rw (a, b, c) refl

pub features_back : (a b c d : ℕ) (rest : List ℕ) → features_in (fields_bytes (feature_fields (a ∷ b ∷ c ∷ d ∷ [])) ++ rest) ≡ Some (record { tag = a ∷ b ∷ c ∷ d ∷ []; lookups = [] } ∷ [])
unfolding feature_fields
features_back a b c d rest =
    let letters : List ℕ = a ∷ b ∷ c ∷ d ∷ [] in
    let own : List ℕ = fields_bytes (Uint16 0 ∷ Uint16 0 ∷ []) ++ rest in
    read_features (fields_bytes (feature_fields letters) ++ rest) letters 8 [] refl
    (one_back tagged_bytes tagged_in 6 (letters, 8) own (eight_back a b c d))
    (feature_back 0 [] rest refl (omega arith) tt)

-- ---- scripts

read_scripts : (bytes letters : List ℕ) (offset language : ℕ) (features : List ℕ) → uint16 bytes ≡ Some 1 → records tagged_in 6 1 (drop 2 bytes) ≡ Some ((letters, offset) ∷ [])
    → uint16 (drop offset bytes) ≡ Some language → uint16 (drop 2 (drop offset bytes)) ≡ Some 0 → language_in (drop language (drop offset bytes)) ≡ Some features
    → scripts_in bytes ≡ Some (record { tag = letters; features = features } ∷ [])
read_scripts bytes letters offset language features a b c d e = rw (a, b, c, d, e) refl

read_language : (bytes : List ℕ) (count : ℕ) (features : List ℕ) → uint16 bytes ≡ Some 0 → uint16 (drop 2 bytes) ≡ Some 0xFFFF → uint16 (drop 4 bytes) ≡ Some count → records uint16 2 count (drop 6 bytes) ≡ Some features → language_in bytes ≡ Some features
read_language bytes count features a b c d = rw (a, b, c, d) refl

pub scripts_back : (rest : List ℕ) → scripts_in (fields_bytes script_fields ++ rest) ≡ Some (record { tag = codes "DFLT"; features = 0 ∷ [] } ∷ [])
unfolding script_fields
scripts_back rest =
    let language : List ℕ = fields_bytes (Uint16 0 ∷ Uint16 0xFFFF ∷ Uint16 1 ∷ []) ++ (flat_map word_bytes (0 ∷ []) ++ rest) in
    let script : List ℕ = fields_bytes (Uint16 4 ∷ Uint16 0 ∷ []) ++ language in
    read_scripts (fields_bytes script_fields ++ rest) (codes "DFLT") 8 4 (0 ∷ []) refl
    (one_back tagged_bytes tagged_in 6 (codes "DFLT", 8) script (eight_back 68 70 76 84))
    refl refl
    (read_language language 1 (0 ∷ []) refl refl refl (words_back 1 (0 ∷ []) rest refl (omega arith, tt)))

-- ---- alternates

abbrev alternate_record_bytes : ℕ × ℕ → List ℕ
alternate_record_bytes entry = fields_bytes (Uint16 entry.0 ∷ Uint32 entry.1 ∷ [])

twelve_back : ComesBack alternate_record_bytes alternate_record_in 6 (0, 12)
twelve_back = record { size_is = refl; back = refl }

read_alternates : (bytes : List ℕ) (offset : ℕ) (lookups : List ℕ) → uint16 bytes ≡ Some 1 → uint16 (drop 2 bytes) ≡ Some 0 → uint16 (drop 4 bytes) ≡ Some 1 → records alternate_record_in 6 1 (drop 6 bytes) ≡ Some ((0, offset) ∷ [])
    → feature_in (drop offset bytes) ≡ Some lookups → alternates_in bytes ≡ Some ((0, lookups) ∷ [])
read_alternates bytes offset lookups a b c d e = rw (a, b, c, d, e) refl

pub alternates_back : (numbers rest : List ℕ) → length numbers < 2 ^ 16 → AllByRecursion IsWord numbers → alternates_in (alternate_bytes numbers ++ rest) ≡ Some ((0, numbers) ∷ [])
unfolding alternate_fields
alternates_back numbers rest few fit =
    let count : ℕ = length numbers in
    let own : List ℕ = fields_bytes (Uint16 0 ∷ Uint16 count ∷ []) ++ (flat_map word_bytes numbers ++ rest) in
    read_alternates (alternate_bytes numbers ++ rest) 12 numbers refl refl refl
    (one_back alternate_record_bytes alternate_record_in 6 (0, 12) own twelve_back)
    (feature_back count numbers rest refl few fit)

pub length-alternate : (numbers : List ℕ) → length (alternate_bytes numbers) ≡ 16 + 2 * length numbers
unfolding alternate_fields
length-alternate numbers = omega (arith, array_size word_bytes 2 numbers (λ number. refl))
