-- One to six hexadecimal digits write a number of 32 bits, and a sign isn't among them.
use Rattle.std.proofs.Common.{◌≡◌, ℕ, ◌<◌, ◌≤◌, ◌≢◌, ◌^◌, true, List, [], ◌∷◌, length, get_or, arith, sym, subst}
use Rattle.std.proofs.Math.Nat.{pow-le-pow_right}
use Rattle.std.proofs.lemmas.Bool.Decides.{nat_tests}
use Rattle.std.proofs.lemmas.Int.Digits.{digits_value-lt}
use Rattle.std.proofs.lemmas.Str.Parse.{without_leading_plus_none}
use Rattle.std.specs.Char.{digit_value, is_ascii_hexdigit}
use Rattle.std.specs.List.{list_all}
use Rattle.std.specs.Str.Parse.{AllDigits, IsNumeral, digits_value, without_leading_plus}
use Rattle.glif.specs.Glyphs.{is_hexadecimal}

below_16 : (c : ℕ) → is_ascii_hexdigit c ≡ true → digit_value c < 16
below_16 c digit = grind (arith, nat_tests)

no_sign : (c : ℕ) → is_ascii_hexdigit c ≡ true → c ≢ 43
no_sign c digit = grind (arith, nat_tests)

all_digits : (text : List ℕ) → list_all is_ascii_hexdigit text ≡ true → AllDigits 16 text
all_digits [] all = tt
all_digits (c ∷ text) all = (below_16 c (grind (arith, nat_tests)), all_digits text (grind (arith, nat_tests)))

no_plus : (text : List ℕ) → list_all is_ascii_hexdigit text ≡ true → get_or text 0 0 ≢ 43
no_plus [] all = λ e. cc
no_plus (c ∷ text) all = no_sign c (grind (arith, nat_tests))

-- what `from_str_radix` wants of a text
abbrev pub IsParsed : List ℕ → Type 0
IsParsed text = IsNumeral 16 (without_leading_plus text) × (digits_value 16 (without_leading_plus text) < 2 ^ 32)

parsed : (text : List ℕ) → 0 < length text → length text ≤ 6 → list_all is_ascii_hexdigit text ≡ true → IsParsed text
parsed text some few all =
    let digits = all_digits text all in
    let most : 16 ^ length text ≤ 16 ^ 6 = pow-le-pow_right (omega arith) few in
    let P : List ℕ → Type 0 = λ bytes. IsNumeral 16 bytes × (digits_value 16 bytes < 2 ^ 32) in
    subst P (sym (without_leading_plus_none text (no_plus text all))) ((some, digits), omega (arith, digits_value-lt 16 text digits, most))

pub is_parsed : (text : List ℕ) → is_hexadecimal text ≡ true → IsParsed text
is_parsed text h = parsed text (grind (arith, nat_tests)) (grind (arith, nat_tests)) (grind (arith, nat_tests))
