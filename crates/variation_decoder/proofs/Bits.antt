-- What tests of bits and masks say in numbers.
use Rattle.std.proofs.Common.{◌≡◌, ℕ, ◌/◌, ◌%◌, ◌<◌, ◌≤◌, ◌^◌, Bool, true, false, eqb, refl, sym, ap, ◌∙◌, arith}
use Rattle.std.specs.Prelude.{bit_and}
use Rattle.std.proofs.lemmas.Bool.{eqb-true, eqb-false, eq-eqb, ne_eqb, not-false, not-true, not_from_true, not_from_false, both_ways, false_from_ne_true}
use Rattle.std.proofs.lemmas.Nat.{and_mask, and_shr, and_mod, and_le_r, bit_set_by_shift, mod_below}
use Rattle.variation_decoder.specs.Tuples.{has_bits}

abbrev pub bit : Bool → ℕ
bit true = 1
bit false = 0

pub bit_below : (b : Bool) → bit b < 2
bit_below true = omega arith
bit_below false = omega arith

-- the twelve low bits
pub low_twelve : (n : ℕ) → bit_and n 4095 ≡ n % 4096
low_twelve n = and_mask n 12

-- no bit of a mask is set where the common bits are 0
pub no_bits : (mask n : ℕ) → bit_and n mask ≡ 0 → has_bits mask n ≡ false
no_bits mask n none = not_from_true (eqb (bit_and n mask) 0) (eq-eqb (bit_and n mask) 0 none)

pub none_of_no_bits : (mask n : ℕ) → has_bits mask n ≡ false → bit_and n mask ≡ 0
none_of_no_bits mask n e = eqb-true (bit_and n mask) 0 (not-false (eqb (bit_and n mask) 0) e)

-- a single bit is a digit of the number
set_bit : (k n : ℕ) → n / 2 ^ k % 2 ≡ 1 → has_bits (2 ^ k) n ≡ true
set_bit k n e = not_from_false (eqb (bit_and n (2 ^ k)) 0) (ne_eqb (bit_and n (2 ^ k)) 0 ((bit_set_by_shift n k).0 (and_mask (n / 2 ^ k) 1 ∙ e)))

of_set_bit : (k n : ℕ) → has_bits (2 ^ k) n ≡ true → n / 2 ^ k % 2 ≡ 1
of_set_bit k n e =
    sym (and_mask (n / 2 ^ k) 1) ∙ (bit_set_by_shift n k).1 (eqb-false (bit_and n (2 ^ k)) 0 (not-true (eqb (bit_and n (2 ^ k)) 0) e))

digit_by : (k n : ℕ) (b : Bool) → has_bits (2 ^ k) n ≡ b → n / 2 ^ k % 2 ≡ bit b
digit_by k n true e = of_set_bit k n e
digit_by k n false e =
    let below = mod_below (n / 2 ^ k) 2 (omega arith) in
    let not_one : n / 2 ^ k % 2 ≡ 1 → ⊥ = λ one. both_ways (has_bits (2 ^ k) n) e (set_bit k n one) in
    omega (arith, not_one, below)

pub digit_is : (k n : ℕ) → n / 2 ^ k % 2 ≡ bit (has_bits (2 ^ k) n)
digit_is k n = digit_by k n (has_bits (2 ^ k) n) refl

pub bits_are : (k n : ℕ) (b : Bool) → n / 2 ^ k % 2 ≡ bit b → has_bits (2 ^ k) n ≡ b
bits_are k n true e = set_bit k n e
bits_are k n false e = false_from_ne_true (has_bits (2 ^ k) n) (λ set. omega (arith, of_set_bit k n set))

-- the three bits below the highest
pub no_middle_bits : (n : ℕ) → has_bits 28672 n ≡ false → n / 4096 % 8 ≡ 0
no_middle_bits n e =
    sym (and_mask (n / 4096) 3) ∙ sym (and_shr n 28672 12) ∙ ap (λ (m : ℕ). m / 4096) (none_of_no_bits 28672 n e)

pub middle_bits_are_none : (n : ℕ) → n / 4096 % 8 ≡ 0 → has_bits 28672 n ≡ false
middle_bits_are_none n e =
    let high : bit_and n 28672 / 4096 ≡ 0 = and_shr n 28672 12 ∙ and_mask (n / 4096) 3 ∙ e in
    let low : bit_and n 28672 % 4096 ≡ bit_and (n % 4096) 0 = and_mod n 28672 12 in
    let least : bit_and (n % 4096) 0 ≤ 0 = and_le_r (n % 4096) 0 in
    no_bits 28672 n (omega arith)
