-- Sets of numbers as bits of words of 64.
use Rattle.std.specs.Prelude.{◌≡◌, ℕ, ◌/◌, ◌%◌, ◌<◌, ◌≤◌, List, Option, slice_index_or}
use Rattle.std.specs.Option.{MatchOption}
use Rattle.std.specs.Int.{bit_at}

-- the set has the number
pub record Has (words : List ℕ) (m : ℕ) : Type 0 where
  pub bit : bit_at (slice_index_or words (m / 64) 0) (m % 64) ≡ 1

-- a number is the least of the set within bounds
pub record IsLeastFrom (words : List ℕ) (low high m : ℕ) : Type 0 where
  pub not_below : low ≤ m
  pub below : m < high
  pub has : Has words m
  pub none_before : (k : ℕ) → low ≤ k → k < m → Has words k → ⊥

-- the least number of the set that is at least low and below high, if there is one
abbrev pub IsNextOf : List ℕ → ℕ → ℕ → Option ℕ → Type 0
IsNextOf words low high next = MatchOption next ((k : ℕ) → low ≤ k → k < high → Has words k → ⊥) (IsLeastFrom words low high)
