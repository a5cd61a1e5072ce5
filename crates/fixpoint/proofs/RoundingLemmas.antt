-- Rounding by its bounds, which are all that the code and the crates above need of `round_up`.
-- `omega` reads a signed number z as `up z - down z`.
use Rattle.std.proofs.Common.{◌≡◌, refl, ap, ℕ, ℤ, zero, suc, pos, negsuc, neg_ℤ, ◌+ℤ◌, ◌-ℤ◌, ◌*ℤ◌, ◌≤ℤ◌, ◌<ℤ◌, ◌+◌, ◌*◌, ◌<◌, ◌≤◌, arith}
use Rattle.std.proofs.lemmas.Int.{ints}
use Rattle.std.proofs.Math.Nat.{mul-le-mul_left, le-mul_of_pos_right, lt_of_mul-lt-mul_right}
use Rattle.std.specs.Int.{Width, int_div_euclid, int_rem_euclid}
use Rattle.std.specs.Int.RustNames.{FitsSigned, unsigned_abs}
use borrow.Author.Differences.{up, down}
use Rattle.fixpoint.specs.Rounding.{round_up, round_down, IsNearestUp}

-- a product by a number that is not negative, in parts
times_pos : (z : ℤ) (k : ℕ) → (up (z *ℤ pos k) ≡ up z * k) × (down (z *ℤ pos k) ≡ down z * k)
times_pos (pos a) k = omega (arith, ints)
times_pos (negsuc a) k = omega (arith, ints)

-- a number twice, in parts
twice : (z : ℤ) → (up (pos 2 *ℤ z) ≡ 2 * up z) × (down (pos 2 *ℤ z) ≡ 2 * down z)
twice (pos a) = omega (arith, ints)
twice (negsuc a) = omega (arith, ints)

-- the quotient that rounds down is the greatest whose product with the divisor is not above the number
floor_parts : (x : ℤ) (k : ℕ) → 0 < k → (up (int_div_euclid x (pos k)) * k + down x ≤ down (int_div_euclid x (pos k)) * k + up x) × (down (int_div_euclid x (pos k)) * k + up x < up (int_div_euclid x (pos k)) * k + down x + k)
floor_parts (pos a) k some = omega arith
floor_parts (negsuc a) k some = omega arith

-- being nearest, as two lines over numbers that are not negative
pub nearest_parts : (n : ℤ) (d : ℕ) (r : ℤ) → IsNearestUp n d r → (2 * (up r * d) + 2 * down n ≤ 2 * (down r * d) + 2 * up n + d) × (2 * (down r * d) + 2 * up n < 2 * (up r * d) + 2 * down n + d)
nearest_parts n d r near =
    let low : (r *ℤ pos (2 * d)) ≤ℤ (pos 2 *ℤ n +ℤ pos d) = near.low in
    let high : (pos 2 *ℤ n +ℤ pos d) <ℤ (r *ℤ pos (2 * d) +ℤ pos (2 * d)) = near.high in
    omega (arith, ints, times_pos r (2 * d), twice n)

pub parts_of_nearest : (n : ℤ) (d : ℕ) (r : ℤ) → 2 * (up r * d) + 2 * down n ≤ 2 * (down r * d) + 2 * up n + d → 2 * (down r * d) + 2 * up n < 2 * (up r * d) + 2 * down n + d → IsNearestUp n d r
parts_of_nearest n d r low high = record {
  low = omega (arith, ints, times_pos r (2 * d), twice n);
  high = omega (arith, ints, times_pos r (2 * d), twice n);
}

-- what rounding gives is nearest
pub round_up_bounds : (n : ℤ) (d : ℕ) → 0 < d → IsNearestUp n d (round_up n d)
unfolding round_up
round_up_bounds n d some =
    let floor = floor_parts (pos 2 *ℤ n +ℤ pos d) (2 * d) (omega arith) in
    parts_of_nearest n d (int_div_euclid (pos 2 *ℤ n +ℤ pos d) (pos (2 * d)))
    (omega (arith, ints, twice n, floor)) (omega (arith, ints, twice n, floor))

-- of two products by one number, the lesser one's factor is the lesser
factor_le : (a b k : ℕ) → a * k < b * k + k → a ≤ b
factor_le a b k h =
    let next : a * k < (b + 1) * k = omega arith in
    let less : a < b + 1 = lt_of_mul-lt-mul_right k next in
    omega arith

-- two numbers that are nearest to one fraction: the first is not above the second
nearest_le : (n : ℤ) (d : ℕ) (q r : ℤ) → IsNearestUp n d q → IsNearestUp n d r → up q + down r ≤ up r + down q
nearest_le n d q r first second =
    factor_le (up q + down r) (up r + down q) d (omega (arith, nearest_parts n d q first, nearest_parts n d r second))

-- no other number is nearest
pub round_up_is : (n : ℤ) (d : ℕ) (r : ℤ) → 0 < d → IsNearestUp n d r → round_up n d ≡ r
round_up_is n d r some near =
    let rounded = round_up_bounds n d some in
    omega (arith, ints, nearest_le n d (round_up n d) r rounded near, nearest_le n d r (round_up n d) near rounded)

-- a bound above that is not negative is kept
pub round_up_at_most : (n : ℤ) (d greatest : ℕ) → 0 < d → n ≤ℤ pos greatest → round_up n d ≤ℤ pos greatest
round_up_at_most n d greatest some high =
    let near = nearest_parts n d (round_up n d) (round_up_bounds n d some) in
    let grown : greatest ≤ greatest * d = le-mul_of_pos_right greatest some in
    let step : up (round_up n d) ≤ greatest + down (round_up n d) =
    factor_le (up (round_up n d)) (greatest + down (round_up n d)) d (omega (arith, ints, near)) in
    omega (arith, ints)

-- and so is one below that is not positive
pub round_up_at_least : (n : ℤ) (d least : ℕ) → 0 < d → neg_ℤ (pos least) ≤ℤ n → neg_ℤ (pos least) ≤ℤ round_up n d
round_up_at_least n d least some low =
    let near = nearest_parts n d (round_up n d) (round_up_bounds n d some) in
    let grown : least ≤ least * d = le-mul_of_pos_right least some in
    let step : down (round_up n d) ≤ least + up (round_up n d) =
    factor_le (down (round_up n d)) (least + up (round_up n d)) d (omega (arith, ints, near)) in
    omega (arith, ints)

-- a part of a number that is not negative is at most the whole
scaled_at_most : (s a b : ℕ) → 0 < b → a ≤ b → round_up (pos s *ℤ pos a) b ≤ℤ pos s
scaled_at_most s a b some fraction =
    let near = nearest_parts (pos s *ℤ pos a) b (round_up (pos s *ℤ pos a) b) (round_up_bounds (pos s *ℤ pos a) b some) in
    let more : s * a ≤ s * b = mul-le-mul_left s fraction in
    let step : up (round_up (pos s *ℤ pos a) b) ≤ s + down (round_up (pos s *ℤ pos a) b) =
    factor_le (up (round_up (pos s *ℤ pos a) b)) (s + down (round_up (pos s *ℤ pos a) b)) b (omega (arith, ints, near)) in
    omega (arith, ints)

-- the same of signed numbers: the part a / b of s lies between nothing and the whole
pub scaled_within : (s a : ℤ) (b : ℕ) → 0 < b → pos 0 ≤ℤ s → pos 0 ≤ℤ a → a ≤ℤ pos b → (pos 0 ≤ℤ round_up (s *ℤ a) b) × (round_up (s *ℤ a) b ≤ℤ s)
scaled_within (pos s) (pos a) b some whole part fraction =
    (round_up_at_least (pos s *ℤ pos a) b 0 some (omega (arith, ints)), scaled_at_most s a b some (omega (arith, ints)))
scaled_within (pos s) (negsuc a) b some whole part fraction = absurd (omega (arith, ints))
scaled_within (negsuc s) a b some whole part fraction = absurd (omega (arith, ints))

-- the whole of it
pub scaled_by_one : (s : ℤ) (b : ℕ) → 0 < b → round_up (s *ℤ pos b) b ≡ s
scaled_by_one s b some =
    round_up_is (s *ℤ pos b) b s some
    (parts_of_nearest (s *ℤ pos b) b s (omega (arith, ints, times_pos s b)) (omega (arith, ints, times_pos s b)))

-- and nothing of it
pub scaled_by_zero : (s : ℤ) (b : ℕ) → 0 < b → round_up (s *ℤ pos 0) b ≡ pos 0
scaled_by_zero s b some =
    round_up_is (s *ℤ pos 0) b (pos 0) some
    (parts_of_nearest (s *ℤ pos 0) b (pos 0) (omega (arith, ints, times_pos s 0)) (omega (arith, ints, times_pos s 0)))

-- the size of a number between 0 and a bound
size_above : (z : ℤ) (bound : ℕ) → pos 0 ≤ℤ z → z ≤ℤ pos bound → unsigned_abs z ≤ bound
size_above (pos z) bound low high = omega (arith, ints)
size_above (negsuc z) bound low high = absurd (omega (arith, ints))

size_below : (z : ℤ) (bound : ℕ) → neg_ℤ (pos bound) ≤ℤ z → z ≤ℤ pos 0 → unsigned_abs z ≤ bound
size_below (pos z) bound low high = omega (arith, ints)
size_below (negsuc z) bound low high = omega (arith, ints)

-- a number and its negation are of one size
size_of_neg : (z : ℤ) → unsigned_abs (neg_ℤ z) ≡ unsigned_abs z
size_of_neg (pos zero) = refl
size_of_neg (pos (suc n)) = refl
size_of_neg (negsuc n) = refl

-- rounding makes no number greater in size
pub round_size : (n : ℤ) (d : ℕ) → 0 < d → unsigned_abs (round_up n d) ≤ unsigned_abs n
round_size (pos n) d some =
    size_above (round_up (pos n) d) n (round_up_at_least (pos n) d 0 some (omega (arith, ints))) (round_up_at_most (pos n) d n some (omega (arith, ints)))
round_size (negsuc n) d some =
    size_below (round_up (negsuc n) d) (suc n) (round_up_at_least (negsuc n) d (suc n) some (omega (arith, ints))) (round_up_at_most (negsuc n) d 0 some (omega (arith, ints)))

-- what is left of 65536 m after t, divided with a tie going down, brings m back
pub comes_back : (t m : ℤ) → round_up (t +ℤ (pos 65536 *ℤ round_down ((pos 65536 *ℤ m) -ℤ t) 65536)) 65536 ≡ m
comes_back t m =
    let u = round_up (neg_ℤ ((pos 65536 *ℤ m) -ℤ t)) 65536 in
    let near = nearest_parts (neg_ℤ ((pos 65536 *ℤ m) -ℤ t)) 65536 u (round_up_bounds (neg_ℤ ((pos 65536 *ℤ m) -ℤ t)) 65536 (omega arith)) in
    round_up_is (t +ℤ (pos 65536 *ℤ neg_ℤ u)) 65536 m (omega arith)
    (parts_of_nearest (t +ℤ (pos 65536 *ℤ neg_ℤ u)) 65536 m (omega (arith, ints, near)) (omega (arith, ints, near)))

-- both roundings of a number that fits a type fit it
pub round_up_fits : (w : Width) (n : ℤ) (d : ℕ) → 0 < d → FitsSigned w n → FitsSigned w (round_up n d)
round_up_fits w (pos n) d some fits =
    let low = round_up_at_least (pos n) d 0 some (omega (arith, ints)) in
    let high = round_up_at_most (pos n) d n some (omega (arith, ints)) in
    omega (arith, ints)
round_up_fits w (negsuc n) d some fits =
    let low = round_up_at_least (negsuc n) d (suc n) some (omega (arith, ints)) in
    let high = round_up_at_most (negsuc n) d 0 some (omega (arith, ints)) in
    omega (arith, ints)

pub round_down_fits : (w : Width) (n : ℤ) (d : ℕ) → 0 < d → FitsSigned w n → FitsSigned w (round_down n d)
round_down_fits w (pos n) d some fits =
    let low = round_up_at_least (neg_ℤ (pos n)) d n some (omega (arith, ints)) in
    let high = round_up_at_most (neg_ℤ (pos n)) d 0 some (omega (arith, ints)) in
    omega (arith, ints)
round_down_fits w (negsuc n) d some fits =
    let low = round_up_at_least (pos (suc n)) d 0 some (omega (arith, ints)) in
    let high = round_up_at_most (pos (suc n)) d (suc n) some (omega (arith, ints)) in
    omega (arith, ints)

-- and neither is greater in size
pub round_down_size : (n : ℤ) (d : ℕ) → 0 < d → unsigned_abs (round_down n d) ≤ unsigned_abs n
round_down_size n d some = omega (arith, size_of_neg n, size_of_neg (round_up (neg_ℤ n) d), round_size (neg_ℤ n) d some)

-- to divide is to take the part 1 / d
pub times_one : (n : ℤ) → n *ℤ pos 1 ≡ n
times_one (pos n) = omega (arith, ints)
times_one (negsuc n) = omega (arith, ints)

-- a difference from 0, as code writes a number of the other sign
pub zero_minus : (n : ℤ) → pos 0 -ℤ n ≡ neg_ℤ n
zero_minus n = omega (arith, ints)

-- what rounding down leaves of a number, in parts
rest_parts : (x : ℤ) (k : ℕ) → 0 < k → (up (int_rem_euclid x (pos k)) + up (int_div_euclid x (pos k)) * k + down x ≡ down (int_div_euclid x (pos k)) * k + up x) × (down (int_rem_euclid x (pos k)) ≡ 0) × (up (int_rem_euclid x (pos k)) < k)
rest_parts (pos a) k some = omega arith
rest_parts (negsuc a) k some = omega arith

-- a rest below the half: the quotient is nearest
pub floor_is_nearest : (n d : ℤ) → pos 0 <ℤ d → int_rem_euclid n d <ℤ (d -ℤ int_rem_euclid n d) → round_up n (unsigned_abs d) ≡ int_div_euclid n d
floor_is_nearest n (pos d) some less =
    let above : 0 < d = omega (arith, ints) in
    let rest = rest_parts n d above in
    round_up_is n d (int_div_euclid n (pos d)) above
    (parts_of_nearest n d (int_div_euclid n (pos d)) (omega (arith, ints, rest)) (omega (arith, ints, rest)))
floor_is_nearest n (negsuc d) some less = absurd (omega (arith, ints))

-- the product of the next number, in parts
next_parts : (q : ℤ) (k : ℕ) → up (q +ℤ pos 1) * k + down q * k ≡ up q * k + k + down (q +ℤ pos 1) * k
next_parts q k =
    let line : up (q +ℤ pos 1) + down q ≡ up q + 1 + down (q +ℤ pos 1) = omega (arith, ints) in
    omega (arith, ap (λ (x : ℕ). x * k) line)

-- a rest of the half or more: the next number is
pub next_is_nearest : (n d : ℤ) → pos 0 <ℤ d → (d -ℤ int_rem_euclid n d) ≤ℤ int_rem_euclid n d → round_up n (unsigned_abs d) ≡ int_div_euclid n d +ℤ pos 1
next_is_nearest n (pos d) some more =
    let above : 0 < d = omega (arith, ints) in
    let rest = rest_parts n d above in
    let q = int_div_euclid n (pos d) in
    let next = next_parts q d in
    round_up_is n d (q +ℤ pos 1) above
    (parts_of_nearest n d (q +ℤ pos 1) (omega (arith, ints, rest)) (omega (arith, ints, rest)))
next_is_nearest n (negsuc d) some more = absurd (omega (arith, ints))
