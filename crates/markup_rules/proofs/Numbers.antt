-- Numbers of many digits, of which only those up to the greatest character count.
use Rattle.std.proofs.Common.{◌≡◌, ℕ, ◌+◌, ◌*◌, ◌<◌, ◌≤◌, false, List, [], ◌∷◌, length, get_or, drop, min, refl, ap, ◌∙◌, add-one, drop-cons, arith, ◌⊎◌, inl, inr}
use Rattle.std.specs.Char.{digit_value}
use Rattle.std.specs.Str.Parse.{digits_value_after}
use Rattle.std.proofs.Math.Nat.{le-mul_of_pos_right}
use Rattle.std.proofs.lemmas.Bool.{cases_lt}
use Rattle.std.proofs.lemmas.Bool.Decides.{nat_tests}
use Rattle.markup_rules.specs.Bytes.{is_allowed}
use Rattle.markup_rules.specs.Reading.{allowed}

number_grows : (radix n : ℕ) (digits : List ℕ) → 0 < radix → n ≤ digits_value_after radix n digits
number_grows radix n [] some = omega arith
number_grows radix n (d ∷ digits) some =
    let step : n ≤ n * radix = le-mul_of_pos_right n some in
    omega (arith, number_grows radix (n * radix + digit_value d) digits some)

capped_cases : (radix n bound : ℕ) (digits : List ℕ) → 0 < radix → (n < bound) ⊎ (bound ≤ n) → min (digits_value_after radix (min n bound) digits) bound ≡ min (digits_value_after radix n digits) bound
capped_cases radix n bound digits some (inl less) = ap (λ m. min (digits_value_after radix m digits) bound) (omega arith)
capped_cases radix n bound digits some (inr more) = omega (arith, number_grows radix n digits some, number_grows radix (min n bound) digits some)

number_capped : (radix n bound : ℕ) (digits : List ℕ) → 0 < radix → min (digits_value_after radix (min n bound) digits) bound ≡ min (digits_value_after radix n digits) bound
number_capped radix n bound digits some = capped_cases radix n bound digits some (cases_lt n bound)

-- one digit more, at a bound
pub number_next : (radix n bound : ℕ) (digits : List ℕ) (i : ℕ) → 0 < radix → i < length digits
    → min (digits_value_after radix (min (n * radix + digit_value (get_or digits i 0)) bound) (drop (i + 1) digits)) bound ≡ min (digits_value_after radix n (drop i digits)) bound
number_next radix n bound digits i some within =
    number_capped radix (n * radix + digit_value (get_or digits i 0)) bound (drop (i + 1) digits) some ∙ rw (drop-cons digits i 0, add-one) refl

allowed_far : (n : ℕ) → 0x11_0000 ≤ n → is_allowed n ≡ false
allowed_far n far = grind (arith, nat_tests)

allowed_cases : (n : ℕ) → (n < 0x11_0000) ⊎ (0x11_0000 ≤ n) → allowed (min n 0x11_0000) ≡ allowed n
unfolding allowed
allowed_cases n (inl less) = let same : min n 0x11_0000 ≡ n = omega arith in ap allowed same
allowed_cases n (inr more) = rw (allowed_far (min n 0x11_0000) (omega arith), allowed_far n more) refl

-- no number from there on is a character
pub allowed_capped : (n : ℕ) → allowed (min n 0x11_0000) ≡ allowed n
allowed_capped n = allowed_cases n (cases_lt n 0x11_0000)
