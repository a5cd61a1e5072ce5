-- Normalisation: the least value of an axis becomes -1, the default 0 and the greatest 1. Values are raw numbers with
-- 16 binary places, and normalised ones have 14, so that 1 is 16384.
use Rattle.std.specs.Prelude.{ℤ, pos, ◌*ℤ◌, ◌-ℤ◌, ◌≤ℤ◌, if◌then◌else◌, int_lt, unsigned_abs}
use Rattle.fixpoint.specs.Rounding.{round_up}

-- the least value of an axis, its default and its greatest
pub record Limits : Type 0 where
  pub min : ℤ
  pub default : ℤ
  pub max : ℤ

-- they rise weakly
pub record AreRising (s : Limits) : Type 0 where
  pub low : s.min ≤ℤ s.default
  pub high : s.default ≤ℤ s.max

-- the value brought between two others
unfoldable pub brought : ℤ → ℤ → ℤ → ℤ
brought least greatest v = if int_lt v least then least else (if int_lt greatest v then greatest else v)

-- 16384 times the fraction, or 0 of a side that is empty
unfoldable pub share : ℤ → ℤ → ℤ
share n d = if int_lt (pos 0) d then round_up (pos 16384 *ℤ n) (unsigned_abs d) else pos 0

-- a value between the limits
unfoldable pub normalised_within : Limits → ℤ → ℤ
normalised_within s v =
    if int_lt v s.default then share (v -ℤ s.default) (s.default -ℤ s.min)
    else share (v -ℤ s.default) (s.max -ℤ s.default)

abbrev pub normalised : Limits → ℤ → ℤ
normalised s v = normalised_within s (brought s.min s.max v)
