-- What is written before something is read before it: runs, names and references.
use Rattle.std.proofs.Common.{◌≡◌, ℕ, suc, ◌+◌, Bool, true, false, not, List, [], ◌∷◌, ◌++◌, length, take, drop, Some, refl, sym, ap, ◌∙◌, append_assoc, arith}
use Rattle.std.specs.Prelude.{◌==◌, encode_utf8}
use Rattle.std.specs.List.{list_all}
use Rattle.std.specs.Str.Parse.{digits_value}
use Rattle.std.specs.Char.{is_ascii_digit, is_ascii_hexdigit}
use Rattle.std.proofs.lemmas.Bool.{and_parts, and_from, lt-ltb, eq-eqb}
use Rattle.std.proofs.lemmas.Bool.Decides.{nat_tests}
use Rattle.std.proofs.lemmas.List.{take_at, drop_at, length_push}
use Rattle.std.proofs.lemmas.List.Folds.{list_all-append}
use Rattle.markup_rules.specs.Bytes.{is_name_byte, starts_name}
use Rattle.markup_rules.specs.Syntax.{IsName, Reference, ampersand, less, greater, quotation, apostrophe, decimal, hexadecimal, reference_body, character, IsNumbered, IsReference}
use Rattle.markup_rules.specs.Reading.{name_at, allowed, numbered, number_of, number_reference, character_of, reference_at}
use Rattle.basics.specs.Bytes.{index_of}
use Rattle.basics.specs.Bytes.{stops}
use Rattle.basics.proofs.Runs.{not_true, run_at_again, after_run_again, all_in}

-- ---- runs of one class

-- the first index of a byte that isn't in a run before it
pub index_again : (byte : ℕ) (bytes rest : List ℕ) → list_all (λ b. not (b == byte)) bytes ≡ true → index_of byte (bytes ++ byte ∷ rest) ≡ Some (length bytes)
index_again byte [] rest all = rw (eq-eqb byte byte refl) refl
index_again byte (b ∷ bytes) rest all =
    let parts = and_parts (not (b == byte)) (list_all (λ b. not (b == byte)) bytes) all in
    let one : length bytes + 1 ≡ suc (length bytes) = omega arith in
    rw (not_true (b == byte) parts.0, index_again byte bytes rest parts.1) (ap (λ (n : ℕ). Some n) one)

pub all_both : (class : ℕ → Bool) (prefix back : List ℕ) → list_all class prefix ≡ true → list_all class back ≡ true → list_all class (prefix ++ back) ≡ true
all_both class prefix back p q = list_all-append class prefix back ∙ and_from (list_all class prefix) (list_all class back) p q

-- up to a byte: the bytes before it and those after it
pub before_index : (bytes rest : List ℕ) (b : ℕ) → take (length bytes) (bytes ++ b ∷ rest) ≡ bytes
before_index bytes rest b = take_at bytes (b ∷ rest) (length bytes) refl

pub after_index : (bytes rest : List ℕ) (b : ℕ) → drop (length bytes + 1) (bytes ++ b ∷ rest) ≡ rest
after_index bytes rest b = ap (drop (length bytes + 1)) (sym (append_assoc bytes (b ∷ []) rest)) ∙ drop_at (bytes ++ b ∷ []) rest (length bytes + 1) (length_push bytes b)

-- ---- names

starts_before : (name rest : List ℕ) → starts_name name ≡ true → starts_name (name ++ rest) ≡ true
starts_before [] rest e = absurd cc
starts_before (b ∷ name) rest e = e

pub name_again : (name rest : List ℕ) → IsName name → stops is_name_byte rest ≡ true → name_at (name ++ rest) ≡ Some (name, rest)
unfolding name_at
name_again name rest is stop =
    rw (run_at_again is_name_byte name rest is.bytes stop, after_run_again is_name_byte name rest is.bytes stop, starts_before name rest is.begun, is.utf8) refl

-- ---- references

abbrev is_apart : ℕ → Bool
is_apart b = not (b == 59)

digit_apart : (b : ℕ) → is_ascii_digit b ≡ true → is_apart b ≡ true
digit_apart b digit = grind (arith, nat_tests)

hexadecimal_apart : (b : ℕ) → is_ascii_hexdigit b ≡ true → is_apart b ≡ true
hexadecimal_apart b digit = grind (arith, nat_tests)

body_apart : (r : Reference) → IsReference r → list_all is_apart (reference_body r) ≡ true
body_apart ampersand is = refl
body_apart less is = refl
body_apart greater is = refl
body_apart quotation is = refl
body_apart apostrophe is = refl
body_apart (decimal digits) is = all_in is_ascii_digit is_apart digit_apart digits is.each
body_apart (hexadecimal digits) is = all_in is_ascii_hexdigit is_apart hexadecimal_apart digits is.each

numbered_again : (radix : ℕ) (class : ℕ → Bool) (digits : List ℕ) → IsNumbered radix class digits → numbered radix class digits ≡ Some (digits_value radix digits)
unfolding numbered allowed
numbered_again radix class digits is = rw (lt-ltb 0 (length digits) (omega (arith, is.some)), is.each, is.allowed) refl

digit_no_x : (b : ℕ) → is_ascii_digit b ≡ true → (b == 120) ≡ false
digit_no_x b digit = grind (arith, nat_tests)

decimal_again : (digits : List ℕ) → IsNumbered 10 is_ascii_digit digits → number_of digits ≡ Some (digits_value 10 digits)
unfolding number_of
decimal_again [] is = absurd (omega (arith, is.some))
decimal_again (d ∷ digits) is =
    rw (digit_no_x d (and_parts (is_ascii_digit d) (list_all is_ascii_digit digits) is.each).0) (numbered_again 10 is_ascii_digit (d ∷ digits) is)

hexadecimal_again : (digits : List ℕ) → IsNumbered 16 is_ascii_hexdigit digits → number_of (120 ∷ digits) ≡ Some (digits_value 16 digits)
unfolding number_of
hexadecimal_again digits is = numbered_again 16 is_ascii_hexdigit digits is

character_again : (r : Reference) → IsReference r → character_of (reference_body r) ≡ Some (character r)
unfolding character_of number_reference
character_again ampersand is = refl
character_again less is = refl
character_again greater is = refl
character_again quotation is = refl
character_again apostrophe is = refl
character_again (decimal digits) is = decimal_again digits is
character_again (hexadecimal digits) is = hexadecimal_again digits is

pub reference_again : (r : Reference) (rest : List ℕ) → IsReference r → reference_at (reference_body r ++ 59 ∷ rest) ≡ Some (encode_utf8 (character r), rest)
unfolding reference_at
reference_again r rest is =
    rw (index_again 59 (reference_body r) rest (body_apart r is), before_index (reference_body r) rest 59, character_again r is, after_index (reference_body r) rest 59) refl
