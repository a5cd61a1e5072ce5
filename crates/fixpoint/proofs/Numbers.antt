-- Numbers of many digits, and how little of them decides.
use Rattle.std.proofs.Common.{◌≡◌, ℕ, zero, suc, ◌++◌, take, replicate, lit<, add-zero, ◌+◌, ◌-◌, ◌*◌, ◌≤◌, ◌<◌, ◌^◌, pos, Bool, List, [], ◌∷◌, min, length, get_or, drop, false, refl, ap, ◌∙◌, arith, add-one, drop-cons, sym, ◌/◌, ◌⊎◌, inl, inr}
use Rattle.std.specs.Prelude.{int_le}
use Rattle.std.proofs.lemmas.Bool.{cases_lt, lt-leb}
use Rattle.std.proofs.Math.Nat.{pow-suc, pow-le-pow_right}
use Rattle.std.proofs.lemmas.List.{get_or-replicate, take_more, length-take, length-append, length-replicate}
use Rattle.fixpoint.specs.Rounding.{round_up}
use Rattle.fixpoint.specs.DecimalText.{Decimal, filled, number_after, scaled, with_sign}

-- a number grows with its digits
pub number_grows : (n : ℕ) (digits : List ℕ) → n ≤ number_after n digits
number_grows n [] = omega arith
number_grows n (d ∷ digits) = omega (arith, number_grows (n * 10 + (d - 48)) digits)

-- it hangs on the digits before only up to a bound
capped_cases : (n bound : ℕ) (digits : List ℕ) → (n < bound) ⊎ (bound ≤ n) → min (number_after (min n bound) digits) bound ≡ min (number_after n digits) bound
capped_cases n bound digits (inl less) = ap (λ m. min (number_after m digits) bound) (omega arith)
capped_cases n bound digits (inr more) = omega (arith, number_grows n digits, number_grows (min n bound) digits)

pub number_capped : (n bound : ℕ) (digits : List ℕ) → min (number_after (min n bound) digits) bound ≡ min (number_after n digits) bound
number_capped n bound digits = capped_cases n bound digits (cases_lt n bound)

-- one digit more, at a bound
pub number_next : (n bound : ℕ) (digits : List ℕ) (i : ℕ) → i < length digits → min (number_after (min (n * 10 + (get_or digits i 0 - 48)) bound) (drop (i + 1) digits)) bound ≡ min (number_after n (drop i digits)) bound
number_next n bound digits i within =
    number_capped (n * 10 + (get_or digits i 0 - 48)) bound (drop (i + 1) digits) ∙ rw (drop-cons digits i 0, add-one) refl

too_great : (n : ℕ) → 2147483647 < n → int_le (pos n) (pos 2147483647) ≡ false
too_great n more = lt-leb n 2147483647 more

-- the greatest number that is taken is below the bound
with_sign_cases : (is_negative : Bool) (n : ℕ) → (n < 2 ^ 40) ⊎ (2 ^ 40 ≤ n) → with_sign is_negative (pos (min n (2 ^ 40))) ≡ with_sign is_negative (pos n)
unfolding with_sign
with_sign_cases is_negative n (inl less) = ap (λ (m : ℕ). with_sign is_negative (pos m)) (omega arith)
with_sign_cases is_negative n (inr more) =
    rw (too_great (min n (2 ^ 40)) (omega arith), too_great n (omega arith)) refl

pub with_sign_capped : (is_negative : Bool) (n : ℕ) → with_sign is_negative (pos (min n (2 ^ 40))) ≡ with_sign is_negative (pos n)
with_sign_capped is_negative n = with_sign_cases is_negative n (cases_lt n (2 ^ 40))

-- ---- decimals

-- digits after a number move it to the left
number_split : (n m : ℕ) (digits : List ℕ) → number_after (n + m) digits ≡ n * 10 ^ length digits + number_after m digits
number_split n m [] = omega arith
number_split n m (d ∷ digits) =
    let regroup : (n + m) * 10 + (d - 48) ≡ n * 10 + (m * 10 + (d - 48)) = omega arith in
    let power : n * 10 * 10 ^ length digits ≡ n * 10 ^ suc (length digits) = rw pow-suc (omega arith) in
    ap (λ (k : ℕ). number_after k digits) regroup ∙ (number_split (n * 10) (m * 10 + (d - 48)) digits ∙ ap (λ (k : ℕ). k + number_after (m * 10 + (d - 48)) digits) power)

-- two runs of digits as one
number_append : (n : ℕ) (prefix back : List ℕ) → number_after n (prefix ++ back) ≡ number_after (number_after n prefix) back
number_append n [] back = refl
number_append n (d ∷ prefix) back = number_append (n * 10 + (d - 48)) prefix back

-- one digit more at the end
number_push : (n : ℕ) (prefix : List ℕ) (d : ℕ) → number_after n (prefix ++ d ∷ []) ≡ number_after n prefix * 10 + (d - 48)
number_push n prefix d = number_append n prefix (d ∷ [])

-- a byte adds at most 207 to a digit
pub number_small : (n i d : ℕ) → n + 23 ≤ 23 * 10 ^ i → d ≤ 207 → (n * 10 + d) + 23 ≤ 23 * 10 ^ (i + 1)
number_small n i d small digit = rw (add-one, pow-suc) (omega arith)

pub power_small : (i : ℕ) → i ≤ 18 → 10 ^ i ≤ 10 ^ 18
power_small i few = pow-le-pow_right {n = 10} (lit< tt) few

get_filled : (decimals zeros : List ℕ) (count i : ℕ) → zeros ≡ replicate count 48 → i < count → get_or (decimals ++ zeros) i 0 ≡ get_or decimals i 48
get_filled [] zeros count i e few = ap (λ zs. get_or zs i 0) e ∙ get_or-replicate count i 48 0 few
get_filled (d ∷ decimals) zeros count zero e few = refl
get_filled (d ∷ decimals) zeros count (suc i) e few = get_filled decimals zeros count i e (omega arith)

-- the decimals are at least as many as there are places
filled_length : (decimals : List ℕ) → 18 ≤ length (filled decimals)
unfolding filled
filled_length decimals = omega (arith, length-append decimals (replicate 18 48), length-replicate {A = ℕ} 18 48)

-- the decimal at an index
filled_at : (decimals : List ℕ) (i : ℕ) → i < 18 → get_or (filled decimals) i 0 ≡ get_or decimals i 48
unfolding filled
filled_at decimals i few = get_filled decimals (replicate 18 48) 18 i refl few

-- one decimal more
pub decimals_next : (decimals : List ℕ) (i : ℕ) → i < 18 → number_after 0 (take (i + 1) (filled decimals)) ≡ number_after 0 (take i (filled decimals)) * 10 + (get_or decimals i 48 - 48)
decimals_next decimals i few =
    let within : i < length (filled decimals) = omega (arith, filled_length decimals) in
    ap (number_after 0) (take_more (filled decimals) i 0 within) ∙ (number_push 0 (take i (filled decimals)) (get_or (filled decimals) i 0) ∙ ap (λ (d : ℕ). number_after 0 (take i (filled decimals)) * 10 + (d - 48)) (filled_at decimals i few))

-- ---- sixteen binary places

-- the first 18 decimals fill as many places
scaled_parts : (number : Decimal) → scaled number ≡ number_after 0 number.whole * 10 ^ 18 + number_after 0 (take 18 (filled number.decimals))
unfolding scaled
scaled_parts number =
    let prefix = number_after 0 number.whole in
    let back = take 18 (filled number.decimals) in
    let count : length back ≡ 18 = omega (arith, length-take 18 (filled number.decimals), filled_length number.decimals) in
    number_append 0 number.whole back ∙ (ap (λ (n : ℕ). number_after n back) (sym (add-zero prefix)) ∙ (number_split prefix 0 back ∙ ap (λ (n : ℕ). prefix * 10 ^ n + number_after 0 back) count))

-- what the formula of rounding gives
abbrev far_size : ℕ → ℕ → ℕ
far_size whole decimals = (2 * ((whole * 10 ^ 18 + decimals) * 65536) + 10 ^ 18) / (2 * 10 ^ 18)

far : (whole decimals : ℕ) → 2 ^ 40 ≤ whole → 2147483647 < far_size whole decimals
far whole decimals more = omega arith

-- a whole part of 2^40 is out of range
far_cases : (is_negative : Bool) (whole decimals : ℕ) → (whole < 2 ^ 40) ⊎ (2 ^ 40 ≤ whole)
    → with_sign is_negative (round_up (pos ((min whole (2 ^ 40) * 10 ^ 18 + decimals) * 65536)) (10 ^ 18)) ≡ with_sign is_negative (round_up (pos ((whole * 10 ^ 18 + decimals) * 65536)) (10 ^ 18))
unfolding with_sign round_up
far_cases is_negative whole decimals (inl less) =
    ap (λ (n : ℕ). with_sign is_negative (round_up (pos ((n * 10 ^ 18 + decimals) * 65536)) (10 ^ 18))) (omega arith)
far_cases is_negative whole decimals (inr more) =
    rw (too_great (far_size (min whole (2 ^ 40)) decimals) (far (min whole (2 ^ 40)) decimals (omega arith)), too_great (far_size whole decimals) (far whole decimals more)) refl

pub fix16_parts : (number : Decimal)
    → with_sign number.is_negative (round_up (pos ((min (number_after 0 number.whole) (2 ^ 40) * 10 ^ 18 + number_after 0 (take 18 (filled number.decimals))) * 65536)) (10 ^ 18))
    ≡ with_sign number.is_negative (round_up (pos (scaled number * 65536)) (10 ^ 18))
fix16_parts number =
    let prefix = number_after 0 number.whole in
    let back = number_after 0 (take 18 (filled number.decimals)) in
    far_cases number.is_negative prefix back (cases_lt prefix (2 ^ 40)) ∙ ap (λ (n : ℕ). with_sign number.is_negative (round_up (pos (n * 65536)) (10 ^ 18))) (sym (scaled_parts number))
