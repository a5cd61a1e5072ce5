-- Bounds of rounded fractions.
use Rattle.std.proofs.Common.{ℕ, ℤ, pos, neg_ℤ, suc, negsuc, ◌*ℤ◌, ◌≤ℤ◌, ◌<ℤ◌, ◌+◌, ◌*◌, ◌<◌, ◌≤◌, arith}
use Rattle.std.proofs.lemmas.Int.{ints}
use Rattle.std.proofs.Math.Nat.{lt_of_mul-lt-mul_right, mul-le-mul_left}
use borrow.Author.Differences.{up, down}
use Rattle.fixpoint.specs.Rounding.{round_up}
use Rattle.fixpoint.proofs.RoundingLemmas.{round_up_bounds, nearest_parts, scaled_within}
use Rattle.std.specs.Int.RustNames.{unsigned_abs}

-- of two products by one number, the lesser one's factor is the lesser
factor_le : (a b k : ℕ) → a * k < b * k + k → a ≤ b
factor_le a b k h =
    let next : a * k < (b + 1) * k = omega arith in
    let less : a < b + 1 = lt_of_mul-lt-mul_right k next in
    omega arith

-- a greater fraction is rounded to no less
pub round_up_rises : (n m : ℤ) (d : ℕ) → 0 < d → n ≤ℤ m → round_up n d ≤ℤ round_up m d
round_up_rises n m d some less =
    let low = nearest_parts n d (round_up n d) (round_up_bounds n d some) in
    let high = nearest_parts m d (round_up m d) (round_up_bounds m d some) in
    let step : up (round_up n d) + down (round_up m d) ≤ up (round_up m d) + down (round_up n d) =
    factor_le (up (round_up n d) + down (round_up m d)) (up (round_up m d) + down (round_up n d)) d (omega (arith, ints, low, high)) in
    omega (arith, ints)

-- a fraction between two whole numbers is rounded to one between them
pub round_up_above : (n r : ℤ) (d : ℕ) → 0 < d → up r * d + down n ≤ down r * d + up n → r ≤ℤ round_up n d
round_up_above n r d some less =
    let near = nearest_parts n d (round_up n d) (round_up_bounds n d some) in
    let step : up r + down (round_up n d) ≤ up (round_up n d) + down r =
    factor_le (up r + down (round_up n d)) (up (round_up n d) + down r) d (omega (arith, ints, near)) in
    omega (arith, ints)

pub round_up_below : (n r : ℤ) (d : ℕ) → 0 < d → down r * d + up n ≤ up r * d + down n → round_up n d ≤ℤ r
round_up_below n r d some less =
    let near = nearest_parts n d (round_up n d) (round_up_bounds n d some) in
    let step : up (round_up n d) + down r ≤ up r + down (round_up n d) =
    factor_le (up (round_up n d) + down r) (up r + down (round_up n d)) d (omega (arith, ints, near)) in
    omega (arith, ints)

-- 16384 times a fraction between -1 and 1
pub share_bounds : (n d : ℤ) → pos 0 <ℤ d → neg_ℤ d ≤ℤ n → n ≤ℤ d
    → (neg_ℤ (pos 16384) ≤ℤ round_up (pos 16384 *ℤ n) (unsigned_abs d)) × (round_up (pos 16384 *ℤ n) (unsigned_abs d) ≤ℤ pos 16384)
share_bounds (pos n) (pos d) some low high = (
  round_up_above (pos 16384 *ℤ pos n) (neg_ℤ (pos 16384)) d (omega (arith, ints)) (omega (arith, ints)),
  round_up_below (pos 16384 *ℤ pos n) (pos 16384) d (omega (arith, ints)) (omega (arith, ints)),
)
share_bounds (negsuc n) (pos d) some low high = (
  round_up_above (pos 16384 *ℤ negsuc n) (neg_ℤ (pos 16384)) d (omega (arith, ints)) (omega (arith, ints)),
  round_up_below (pos 16384 *ℤ negsuc n) (pos 16384) d (omega (arith, ints)) (omega (arith, ints)),
)
share_bounds n (negsuc d) some low high = absurd (omega (arith, ints))

-- a part between nothing and the whole of a number that is not negative
pub part_grows : (s a b : ℕ) → 0 < b → a ≤ b → (pos 0 ≤ℤ round_up (pos s *ℤ pos a) b) × (round_up (pos s *ℤ pos a) b ≤ℤ pos s)
part_grows s a b some fraction = scaled_within (pos s) (pos a) b some (omega (arith, ints)) (omega (arith, ints)) (omega (arith, ints))

-- of one that is negative
pub part_falls : (s a b : ℕ) → 0 < b → a ≤ b → (negsuc s ≤ℤ round_up (negsuc s *ℤ pos a) b) × (round_up (negsuc s *ℤ pos a) b ≤ℤ pos 0)
part_falls s a b some fraction =
    let more : suc s * a ≤ suc s * b = mul-le-mul_left (suc s) fraction in (
      round_up_above (negsuc s *ℤ pos a) (negsuc s) b some (omega (arith, ints)),
      round_up_below (negsuc s *ℤ pos a) (pos 0) b some (omega (arith, ints)),
    )

-- a step on a line is at most the line's rise in size, and of its sign
pub step_fits : (s a b : ℤ) → pos 0 ≤ℤ a → a ≤ℤ b → pos 0 <ℤ b → neg_ℤ (pos 4294967296) ≤ℤ s → s ≤ℤ pos 4294967296
    → (neg_ℤ (pos 4294967296) ≤ℤ round_up (s *ℤ a) (unsigned_abs b)) × (round_up (s *ℤ a) (unsigned_abs b) ≤ℤ pos 4294967296)
step_fits (pos s) (pos a) (pos b) low high some least greatest =
    let part = part_grows s a b (omega (arith, ints)) (omega (arith, ints)) in
    (omega (arith, ints), omega (arith, ints))
step_fits (negsuc s) (pos a) (pos b) low high some least greatest =
    let part = part_falls s a b (omega (arith, ints)) (omega (arith, ints)) in
    (omega (arith, ints), omega (arith, ints))
step_fits s (negsuc a) b low high some least greatest = absurd (omega (arith, ints))
step_fits s a (negsuc b) low high some least greatest = absurd (omega (arith, ints))
