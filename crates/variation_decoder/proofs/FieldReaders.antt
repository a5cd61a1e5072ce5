-- The readers of big-endian fields.
use Rattle.std.proofs.Common.{◌≡◌, ℕ, ◌<◌, ◌^◌, ◌/◌, ◌%◌, List, [], ◌∷◌, ◌++◌, Some, refl, sym, ap, subst, ◌∙◌, arith, ℤ, FitsSigned, w8, w16, Fits}
use Rattle.std.specs.List.{flat_map, All}
use Rattle.std.proofs.lemmas.List.Elements.{All-nil, All-cons, All-head, All-tail}
use Rattle.std.specs.Int.{cast_signed, cast_unsigned, from_be_bytes}
use Rattle.std.proofs.lemmas.Int.{ints, to_z-of_z, of_z-to_z}
use Rattle.std.proofs.lemmas.Nat.{from_be_bytes-to_be_bytes_2}
use Rattle.std.proofs.lemmas.Option.{same_Some}
use Rattle.std.proofs.Math.Facts.{sfits_to_z}
use Rattle.variation_rules.specs.Fields.{word, signed_word}
use Rattle.variation_decoder.specs.Reading.{byte_at, word_at, signed_byte_at, signed_word_at}
use Rattle.variation_decoder.proofs.Readers.{IsBytes, Takes, IsReader, Made, Many, made_reads, same_reads}

-- the text is the spelling of a value that has one
abbrev pub Spells : {A : Type 0} → (A → List ℕ) → (A → Type 0) → List ℕ → A → Type 0
Spells spell Fits text value = (text ≡ spell value) × Fits value

abbrev pub one_byte : ℕ → List ℕ
one_byte byte = byte ∷ []

byte_taken : (bytes : List ℕ) (read : ℕ × List ℕ) → IsBytes bytes → byte_at bytes ≡ Some read → Takes (Spells one_byte (λ n. n < 2 ^ 8)) bytes read
byte_taken [] read fits e = absurd cc
byte_taken (byte ∷ bytes) read fits e =
    let same : (byte, bytes) ≡ read = same_Some (byte, bytes) read e in
    subst (λ (r : ℕ × List ℕ). Takes (Spells one_byte (λ n. n < 2 ^ 8)) (byte ∷ bytes) r) same
    (record { text = byte ∷ []; parts = refl; stands = (refl, fits 0) })

pub byte_reads : IsReader (Spells one_byte (λ n. n < 2 ^ 8)) byte_at
byte_reads = record {
  takes = byte_taken;
  again = λ text value rest s. rw s.0 refl;
}

word_taken : (bytes : List ℕ) (read : ℕ × List ℕ) → IsBytes bytes → word_at bytes ≡ Some read → Takes (Spells word (λ n. n < 2 ^ 16)) bytes read
word_taken [] read fits e = absurd cc
word_taken (high ∷ []) read fits e = absurd cc
word_taken (high ∷ low ∷ bytes) read fits e =
    let number = from_be_bytes w16 (high ∷ low ∷ []) in
    let same : (number, bytes) ≡ read = same_Some (number, bytes) read e in
    let first : high ≡ number / 256 % 256 = omega (arith, fits 0, fits 1) in
    let second : low ≡ number % 256 = omega (arith, fits 0, fits 1) in
    let spelled : high ∷ low ∷ [] ≡ word number = ap (λ (h : ℕ). h ∷ low ∷ []) first ∙ ap (λ (l : ℕ). (number / 256 % 256) ∷ l ∷ []) second in
    let below : number < 2 ^ 16 = omega (arith, fits 0, fits 1) in
    subst (λ (r : ℕ × List ℕ). Takes (Spells word (λ n. n < 2 ^ 16)) (high ∷ low ∷ bytes) r) same
    (record { text = high ∷ low ∷ []; parts = refl; stands = (spelled, below) })

pub word_reads : IsReader (Spells word (λ n. n < 2 ^ 16)) word_at
word_reads = record {
  takes = word_taken;
  again = λ text value rest s. rw s.0 (ap (λ (n : ℕ). Some (n, rest)) (from_be_bytes-to_be_bytes_2 value s.1));
}

-- ---- signed numbers

abbrev pub signed_byte : ℤ → List ℕ
signed_byte z = cast_unsigned w8 z ∷ []

-- the bits of a number that fits are below the width's limit
bits_of_byte : (z : ℤ) → FitsSigned w8 z → cast_unsigned w8 z < 2 ^ 8
bits_of_byte z fits = omega (arith, ints)

bits_of_word : (z : ℤ) → FitsSigned w16 z → cast_unsigned w16 z < 2 ^ 16
bits_of_word z fits = omega (arith, ints)

signed_byte_of : (n : ℕ) → n < 2 ^ 8 → Spells signed_byte (FitsSigned w8) (one_byte n) (cast_signed w8 n)
signed_byte_of n below =
    let fits : Fits w8 n = omega arith in
    (ap one_byte (sym (of_z-to_z w8 n below)), sfits_to_z fits)

signed_word_of : (n : ℕ) → n < 2 ^ 16 → Spells signed_word (FitsSigned w16) (word n) (cast_signed w16 n)
signed_word_of n below =
    let fits : Fits w16 n = omega arith in
    (ap word (sym (of_z-to_z w16 n below)), sfits_to_z fits)

pub signed_byte_reads : IsReader (Spells signed_byte (FitsSigned w8)) signed_byte_at
unfolding signed_byte_at
signed_byte_reads =
    same_reads (Made (cast_signed w8) (Spells one_byte (λ n. n < 2 ^ 8))) (Spells signed_byte (FitsSigned w8)) signed_byte_at
    (λ text value s. subst (λ (z : ℤ). Spells signed_byte (FitsSigned w8) text z) (sym s.2) (subst (λ (t : List ℕ). Spells signed_byte (FitsSigned w8) t (cast_signed w8 s.0)) (sym s.1.0) (signed_byte_of s.0 s.1.1)))
    (λ text value s. (cast_unsigned w8 value, (s.0, bits_of_byte value s.1), sym (to_z-of_z w8 value s.1)))
    (made_reads (cast_signed w8) (Spells one_byte (λ n. n < 2 ^ 8)) byte_at byte_reads)

pub signed_word_reads : IsReader (Spells signed_word (FitsSigned w16)) signed_word_at
unfolding signed_word_at
signed_word_reads =
    same_reads (Made (cast_signed w16) (Spells word (λ n. n < 2 ^ 16))) (Spells signed_word (FitsSigned w16)) signed_word_at
    (λ text value s. subst (λ (z : ℤ). Spells signed_word (FitsSigned w16) text z) (sym s.2) (subst (λ (t : List ℕ). Spells signed_word (FitsSigned w16) t (cast_signed w16 s.0)) (sym s.1.0) (signed_word_of s.0 s.1.1)))
    (λ text value s. (cast_unsigned w16 value, (s.0, bits_of_word value s.1), sym (to_z-of_z w16 value s.1)))
    (made_reads (cast_signed w16) (Spells word (λ n. n < 2 ^ 16)) word_at word_reads)

-- ---- many values of one spelling

pub spelled_many : {A : Type 0} (spell : A → List ℕ) (Holds : A → Type 0) (text : List ℕ) (values : List A)
    → Many (Spells spell Holds) text values → (text ≡ flat_map spell values) × All Holds values
spelled_many spell Holds text [] s = (s, All-nil Holds)
spelled_many {A} spell Holds text (value ∷ values) s =
    let more = spelled_many spell Holds s.1 values s.4 in
    (s.2 ∙ ap (λ (t : List ℕ). t ++ s.1) s.3.0 ∙ ap (λ (t : List ℕ). spell value ++ t) more.0, All-cons Holds value values s.3.1 more.1)

pub many_spelled : {A : Type 0} (spell : A → List ℕ) (Holds : A → Type 0) (values : List A)
    → All Holds values → Many (Spells spell Holds) (flat_map spell values) values
many_spelled spell Holds [] held = refl
many_spelled spell Holds (value ∷ values) held =
    (spell value, flat_map spell values, refl, (refl, All-head Holds value values held), many_spelled spell Holds values (All-tail Holds value values held))
