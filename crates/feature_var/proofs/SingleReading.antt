-- A single substitution is read back as it was written.
use Rattle.std.proofs.Common.{◌≡◌, ℕ, ◌+◌, ◌*◌, ◌^◌, ◌<◌, ◌≤◌, true, List, [], ◌∷◌, ◌++◌, length, map, drop, Some, refl, sym, ap, ◌∙◌, arith, length-append, append_assoc, eq-eqb}
use Rattle.std.proofs.lemmas.List.{drop-drop, drop_at, length-map}
use Rattle.std.specs.Prelude.{nat_eq}
use Rattle.std.specs.List.{AllByRecursion, flat_map, zip}
use Rattle.be_bytes.specs.Fields.{fields_bytes}
use Rattle.be_bytes.specs.Reading.{records, uint16}
use Rattle.be_bytes.proofs.FieldLemmas.{uint16-field}
use Rattle.feature_var.specs.Coverage.{coverage_in, is_rising}
use Rattle.feature_var.specs.Lookups.{single_in}
use Rattle.feature_var.specs.Layout.{coverage_fields, single_bytes, single_fields, single_size, word_bytes}
use Rattle.feature_var.proofs.Places.{IsWord, array_size, flat_map-map, words_back}

-- ---- the coverage

read_coverage : (bytes : List ℕ) (count : ℕ) (glyphs : List ℕ) → uint16 bytes ≡ Some 1 → uint16 (drop 2 bytes) ≡ Some count → records uint16 2 count (drop 4 bytes) ≡ Some glyphs → is_rising glyphs ≡ true → coverage_in bytes ≡ Some glyphs
read_coverage bytes count glyphs a b c d = rw (a, b, c, d) refl

coverage_back : (glyphs rest : List ℕ) (count : ℕ) → length glyphs ≡ count → count < 2 ^ 16 → AllByRecursion IsWord glyphs → is_rising glyphs ≡ true → coverage_in (fields_bytes (coverage_fields count) ++ (flat_map word_bytes glyphs ++ rest)) ≡ Some glyphs
unfolding coverage_fields
coverage_back glyphs rest count counted few fit rising =
    read_coverage (fields_bytes (coverage_fields count) ++ (flat_map word_bytes glyphs ++ rest)) count glyphs refl (uint16-field count (flat_map word_bytes glyphs ++ rest) few) (words_back count glyphs rest counted fit) rising

-- ---- the whole

-- pairs of glyphs that can be written as a single substitution
pub record AreSingle (pairs : List (ℕ × ℕ)) : Type 0 where
  pub few : length pairs ≤ 4096
  pub firsts : AllByRecursion IsWord (map (λ pair. pair.0) pairs)
  pub seconds : AllByRecursion IsWord (map (λ pair. pair.1) pairs)
  pub rising : is_rising (map (λ pair. pair.0) pairs) ≡ true

-- the parts of pairs put together again
zip_parts : (pairs : List (ℕ × ℕ)) → zip (map (λ pair. pair.0) pairs) (map (λ pair. pair.1) pairs) ≡ pairs
zip_parts [] = refl
zip_parts (pair ∷ pairs) = ap (λ (more : List (ℕ × ℕ)). pair ∷ more) (zip_parts pairs)

read_single : (bytes : List ℕ) (offset count : ℕ) (covered glyphs : List ℕ) → uint16 bytes ≡ Some 2 → uint16 (drop 2 bytes) ≡ Some offset → uint16 (drop 4 bytes) ≡ Some count → records uint16 2 count (drop 6 bytes) ≡ Some glyphs
    → coverage_in (drop offset bytes) ≡ Some covered → nat_eq count (length covered) ≡ true → single_in bytes ≡ Some (zip covered glyphs)
read_single bytes offset count covered glyphs a b c d e f = rw (a, b, c, d, e, f) refl

-- behind three fields, words and a coverage
abbrev parts_bytes : ℕ → List ℕ → List ℕ → List ℕ → List ℕ
parts_bytes count glyphs covered rest =
    fields_bytes (single_fields count) ++ (flat_map word_bytes glyphs ++ (fields_bytes (coverage_fields count) ++ (flat_map word_bytes covered ++ rest)))

parts_back : (count : ℕ) (glyphs covered rest : List ℕ) → count ≤ 4096 → length glyphs ≡ count → length covered ≡ count → AllByRecursion IsWord glyphs → AllByRecursion IsWord covered → is_rising covered ≡ true
    → single_in (parts_bytes count glyphs covered rest) ≡ Some (zip covered glyphs)
unfolding single_fields
parts_back count glyphs covered rest few same same' fit fit' rising =
    let bytes : List ℕ = parts_bytes count glyphs covered rest in
    let coverage : List ℕ = fields_bytes (coverage_fields count) ++ (flat_map word_bytes covered ++ rest) in
    let after : List ℕ = flat_map word_bytes glyphs ++ coverage in
    let sized : length (flat_map word_bytes glyphs) ≡ 2 * count = array_size word_bytes 2 glyphs (λ glyph. refl) ∙ ap (λ (n : ℕ). 2 * n) same in
    let there : drop (6 + 2 * count) bytes ≡ coverage = sym (drop-drop (2 * count) 6 bytes) ∙ drop_at (flat_map word_bytes glyphs) coverage (2 * count) sized in
    read_single bytes (6 + 2 * count) count covered glyphs refl
    (uint16-field (6 + 2 * count) (word_bytes count ++ after) (omega arith))
    (uint16-field count after (omega arith))
    (words_back count glyphs coverage same fit)
    (ap coverage_in there ∙ coverage_back covered rest count same' (omega arith) fit' rising)
    (eq-eqb count (length covered) (sym same'))

-- the bytes as parts of them
whole : (pairs : List (ℕ × ℕ)) (rest : List ℕ) → single_bytes pairs ++ rest ≡ parts_bytes (length pairs) (map (λ pair. pair.1) pairs) (map (λ pair. pair.0) pairs) rest
whole pairs rest = rw (flat_map-map (λ (pair : ℕ × ℕ). pair.1) word_bytes pairs, flat_map-map (λ (pair : ℕ × ℕ). pair.0) word_bytes pairs) (simp append_assoc)

pub length-single : (pairs : List (ℕ × ℕ)) → length (single_bytes pairs) ≡ single_size pairs
unfolding single_fields coverage_fields
length-single pairs =
    omega (
      arith,
      length-append (flat_map (λ (pair : ℕ × ℕ). word_bytes pair.1) pairs) (fields_bytes (coverage_fields (length pairs)) ++ flat_map (λ (pair : ℕ × ℕ). word_bytes pair.0) pairs),
      array_size (λ (pair : ℕ × ℕ). word_bytes pair.1) 2 pairs (λ pair. refl),
      array_size (λ (pair : ℕ × ℕ). word_bytes pair.0) 2 pairs (λ pair. refl),
    )

pub single_back : (pairs : List (ℕ × ℕ)) (rest : List ℕ) → AreSingle pairs → single_in (single_bytes pairs ++ rest) ≡ Some pairs
single_back pairs rest are =
    ap single_in (whole pairs rest)
    ∙ parts_back (length pairs) (map (λ pair. pair.1) pairs) (map (λ pair. pair.0) pairs) rest are.few (length-map pairs (λ pair. pair.1)) (length-map pairs (λ pair. pair.0)) are.seconds are.firsts are.rising
    ∙ ap Some (zip_parts pairs)
