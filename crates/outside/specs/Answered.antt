-- What a read of sources in memory answers, exactly.
use Rattle.std.specs.Prelude.{ℕ, ◌≤◌, List, length, Option, Some, Result, Ok, Err}
use Rattle.outside.specs.Counting.{one_more}
use Rattle.outside.specs.Found.{Finds}
use Rattle.outside.specs.declared.traits.Found.{Found}
use Rattle.outside.specs.declared.traits.ReadError.{ReadError}
use Rattle.outside.specs.declared.traits.ReadError.TheVariants.{Failed, NoMemory}

-- a read that never fails answers what the file holds; memory may run out only where its bytes are asked for
abbrev pub Answers : Option (List ℕ) → ℕ → Result Found ReadError → Type 0
Answers file limit (Ok found) = Finds file limit found
Answers (Some bytes) limit (Err NoMemory) = length bytes ≤ limit
Answers _ limit (Err _) = ⊥

-- the same for a read that may also fail
abbrev pub AnswersUnlessFailed : Option (List ℕ) → ℕ → Result Found ReadError → Type 0
AnswersUnlessFailed file limit (Err Failed) = Unit {0}
AnswersUnlessFailed file limit result = Answers file limit result

-- the count of faults after a read: one more exactly where it failed
abbrev pub count_after_read : ℕ → Result Found ReadError → ℕ
count_after_read count (Err Failed) = one_more count
count_after_read count _ = count
