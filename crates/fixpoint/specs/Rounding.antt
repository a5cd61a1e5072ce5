-- Rounding: the whole number nearest to a fraction, and what becomes of a tie.
use Rattle.std.specs.Prelude.{ℤ, ℕ, pos, neg_ℤ, ◌+ℤ◌, ◌*ℤ◌, ◌≤ℤ◌, ◌<ℤ◌, ◌*◌}
use Rattle.std.specs.Int.{int_div_euclid}

-- n / d rounded to the nearest whole number, a tie to the greater one: the floor of (2n + d) / 2d, for 0 < d
unfoldable pub round_up : ℤ → ℕ → ℤ
round_up n d = int_div_euclid (pos 2 *ℤ n +ℤ pos d) (pos (2 * d))

-- the same, a tie to the lesser one
abbrev pub round_down : ℤ → ℕ → ℤ
round_down n d = neg_ℤ (round_up (neg_ℤ n) d)

-- r is nearest to n / d, a tie going to the greater: r - 1/2 ≤ n / d < r + 1/2, without fractions
pub record IsNearestUp (n : ℤ) (d : ℕ) (r : ℤ) : Type 0 where
  pub low : (r *ℤ pos (2 * d)) ≤ℤ (pos 2 *ℤ n +ℤ pos d)
  pub high : (pos 2 *ℤ n +ℤ pos d) <ℤ (r *ℤ pos (2 * d) +ℤ pos (2 * d))
