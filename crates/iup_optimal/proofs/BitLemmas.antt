-- Sets of numbers as bits of words.
use Rattle.std.proofs.Common.{◌≡◌, ◌↔◌, ℕ, ◌+◌, ◌-◌, ◌*◌, ◌/◌, ◌%◌, ◌^◌, ◌<◌, ◌≤◌, ◌⊎◌, List, get_or, eqb, IsTrue, sym, ◌∙◌, ap, subst, inl, inr, ⊎_elim, arith, eq-eqb, eqb-true, w64}
use Rattle.std.proofs.lemmas.Bool.{cases_eq, cases_lt}
use Rattle.std.proofs.Math.Nat.{div-le_self}
use Rattle.std.proofs.lemmas.Nat.{shr-shr}
use Rattle.std.proofs.lemmas.Nat.Bits.{bit_at_or, bit_at-zero, bit_at_above, shr_and_one, bit_at-pow_same, bit_at-pow_other, bit_at-trailing_zeros, bit_at-lt}
use Rattle.std.specs.Int.{bit_at, trailing_zeros}
use Rattle.std.specs.Prelude.{bit_and, bit_or}
use Rattle.iup_optimal.specs.BitSets.{Has}

-- the test of a bit
pub has_tests : (words : List ℕ) (m : ℕ) → IsTrue (eqb (bit_and (get_or words (m / 64) 0 / 2 ^ (m % 64)) 1) 1) ↔ Has words m
has_tests words m = rw shr_and_one (λ tested. record { bit = eqb-true _ 1 tested }, λ has. eq-eqb _ 1 has.bit)

-- a word without bits has no number
pub has_none : (words : List ℕ) → ((k : ℕ) → get_or words k 0 ≡ 0) → (m : ℕ) → Has words m → ⊥
has_none words zeros m has =
    let none = ap (λ x. bit_at x (m % 64)) (zeros (m / 64)) ∙ bit_at-zero (m % 64) in
    omega (arith, none, has.bit)

-- one number more
pub has_insert : (old new : List ℕ) (k : ℕ) → (get_or new (k / 64) 0 ≡ bit_or (get_or old (k / 64) 0) (2 ^ (k % 64))) → ((i : ℕ) → (i ≡ k / 64 → ⊥) → get_or new i 0 ≡ get_or old i 0) → (m : ℕ) → Has new m ↔ (Has old m ⊎ (m ≡ k))
has_insert old new k here others m =
    ⊎_elim
    (λ (same : m / 64 ≡ k / 64).
    let word : get_or new (m / 64) 0 ≡ bit_or (get_or old (m / 64) 0) (2 ^ (k % 64)) = rw same here in
    let at = ap (λ x. bit_at x (m % 64)) word ∙ bit_at_or (get_or old (m / 64) 0) (2 ^ (k % 64)) (m % 64) in
    ⊎_elim
    (λ (equal : m % 64 ≡ k % 64).
    let whole : m ≡ k = omega arith in
    let set : bit_at (2 ^ (k % 64)) (m % 64) ≡ 1 = rw equal (bit_at-pow_same (k % 64)) in
    let before = bit_at-lt (get_or old (m / 64) 0) (m % 64) in
    (λ has. inr whole, λ either. record { bit = omega (arith, at, set, before) }))
    (λ (apart : m % 64 ≡ k % 64 → ⊥).
    let unset = bit_at-pow_other (k % 64) (m % 64) apart in (
      λ has. inl (record { bit = omega (arith, at, unset, has.bit) }),
      λ either. ⊎_elim (λ has. record { bit = omega (arith, at, unset, has.bit) }) (λ (equal : m ≡ k). absurd (apart (ap (λ x. x % 64) equal))) either,
    ))
    (cases_eq (m % 64) (k % 64)))
    (λ (other : m / 64 ≡ k / 64 → ⊥).
    let word = ap (λ x. bit_at x (m % 64)) (others (m / 64) other) in (
      λ has. inl (record { bit = sym word ∙ has.bit }),
      λ either. ⊎_elim (λ has. record { bit = word ∙ has.bit }) (λ (equal : m ≡ k). absurd (other (ap (λ x. x / 64) equal))) either,
    ))
    (cases_eq (m / 64) (k / 64))

-- the bits of a word from a place on
bits_from : (words : List ℕ) (at j : ℕ) → at % 64 + j < 64 → bit_at (get_or words (at / 64) 0 / 2 ^ (at % 64)) j ≡ bit_at (get_or words ((at + j) / 64) 0) ((at + j) % 64)
bits_from words at j within =
    let word : (at + j) / 64 ≡ at / 64 = omega arith in
    let bit : (at + j) % 64 ≡ at % 64 + j = omega arith in
    rw (word, bit) (ap (λ x. x % 2) (shr-shr (get_or words (at / 64) 0) (at % 64) j))

-- where no bit of the word is left, the next number lies in a later word
pub none_left : (words : List ℕ) (at m : ℕ) → get_or words (at / 64) 0 / 2 ^ (at % 64) ≡ 0 → at ≤ m → m < (at / 64 + 1) * 64 → Has words m → ⊥
none_left words at m empty low high has =
    let place : at + (m - at) ≡ m = omega arith in
    let bit = bits_from words at (m - at) (omega arith) in
    let here = ap (λ x. bit_at (get_or words (x / 64) 0) (x % 64)) place in
    let none = ap (λ x. bit_at x (m - at)) empty ∙ bit_at-zero (m - at) in
    omega (arith, bit, here, none, has.bit)

-- else it is that of the lowest bit left
pub record Lowest (words : List ℕ) (at bit : ℕ) : Type 0 where
  pub inside : at % 64 + bit < 64
  pub has : Has words (at + bit)
  pub none_before : (m : ℕ) → at ≤ m → m < at + bit → Has words m → ⊥

pub lowest_left : (words : List ℕ) (at word : ℕ) → word ≡ get_or words (at / 64) 0 → word < 2 ^ 64 → 0 < word / 2 ^ (at % 64) → Lowest words at (trailing_zeros w64 (word / 2 ^ (at % 64)))
lowest_left words at word read fits some =
    let left : ℕ = word / 2 ^ (at % 64) in
    let small : left < 2 ^ 64 = omega (arith, div-le_self word (2 ^ (at % 64))) in
    let lowest = bit_at-trailing_zeros w64 left some small in
    let t : ℕ = trailing_zeros w64 left in
    let set : bit_at left t ≡ 1 = lowest.1 in
    let inside : at % 64 + t < 64 = ⊎_elim
    (λ (below : at % 64 + t < 64). below)
    (λ (above : 64 ≤ at % 64 + t).
    let bit : bit_at left t ≡ bit_at word (at % 64 + t) = ap (λ x. x % 2) (shr-shr word (at % 64) t) in
    let none = bit_at_above word 64 (at % 64 + t) fits above in
    absurd (omega (arith, set, bit, none)))
    (cases_lt (at % 64 + t) 64) in
    record {
      inside = inside;
      has = record { bit = sym (subst (λ (w : ℕ). bit_at (w / 2 ^ (at % 64)) t ≡ bit_at (get_or words ((at + t) / 64) 0) ((at + t) % 64)) (sym read) (bits_from words at t inside)) ∙ set };
      none_before = λ m low high has.
          let place : at + (m - at) ≡ m = omega arith in
          let bit = subst (λ (w : ℕ). bit_at (w / 2 ^ (at % 64)) (m - at) ≡ bit_at (get_or words ((at + (m - at)) / 64) 0) ((at + (m - at)) % 64)) (sym read) (bits_from words at (m - at) (omega arith)) in
          let here = ap (λ x. bit_at (get_or words (x / 64) 0) (x % 64)) place in
          let none = lowest.2 (m - at) (omega arith) in
          omega (arith, bit, here, none, has.bit);
    }
