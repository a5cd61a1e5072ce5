-- What a read of one file answers.
use Rattle.std.specs.Prelude.{◌≡◌, ℕ, ◌≤◌, ◌<◌, List, length, Option, Some, None, Result, Err}
use Rattle.outside.specs.Files.{HasRisen}
use Rattle.outside.specs.declared.traits.Found.{Found}
use Rattle.outside.specs.declared.traits.Found.TheVariants.{Bytes, Absent, TooLong}
use Rattle.outside.specs.declared.traits.ReadError.{ReadError}
use Rattle.outside.specs.declared.traits.ReadError.TheVariants.{Failed}

-- what is found is what the file holds: its bytes within the limit, nothing, or its length beyond the limit
abbrev pub Finds : Option (List ℕ) → ℕ → Found → Type 0
Finds None limit Absent = Unit {0}
Finds None limit (Bytes _) = ⊥
Finds None limit (TooLong _) = ⊥
Finds (Some bytes) limit Absent = ⊥
Finds (Some bytes) limit (Bytes found) = (found.items ≡ bytes) × (length bytes ≤ limit)
Finds (Some bytes) limit (TooLong n) = (n ≡ length bytes) × (limit < length bytes)

-- whatever the source tells, no more bytes than the limit come, and too long is longer than the limit
abbrev pub IsWithin : ℕ → Found → Type 0
IsWithin limit (Bytes found) = length found.items ≤ limit
IsWithin limit Absent = Unit {0}
IsWithin limit (TooLong n) = limit < n

-- the count of faults never falls, and rises with each read that failed; want of memory is no fault
abbrev pub CountsReads : ℕ → ℕ → Result Found ReadError → Type 0
CountsReads before after (Err Failed) = HasRisen before after
CountsReads before after _ = before ≤ after

-- the read didn't fail
abbrev pub NeverFails : Result Found ReadError → Type 0
NeverFails (Err Failed) = ⊥
NeverFails _ = Unit {0}
