-- Counts that stand still at the end of their type, and the calls of a form in memory that are to fail.
use Rattle.std.specs.Prelude.{ℕ, ◌+◌, ◌-◌, ◌^◌, min, max, Result, Ok, Err}

-- one fault more, up to the end of 64 bits
abbrev pub one_more : ℕ → ℕ
one_more count = max count (min (count + 1) (2 ^ 64 - 1))

-- the count of faults after a call: one more exactly where it failed
abbrev pub count_after : {X E : Type 0} → ℕ → Result X E → ℕ
count_after count (Ok _) = count
count_after count (Err _) = one_more count

-- the number of the call after this one; no list of 64-bit numbers has the last one, 2 ^ 64
abbrev pub next_number : ℕ → ℕ
next_number call = min (call + 1) (2 ^ 64)
