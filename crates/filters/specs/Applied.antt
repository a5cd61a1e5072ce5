-- What a filter answers.
use Rattle.std.specs.Prelude.{◌≡◌, ℕ, ◌+◌, ◌-◌, ◌^◌, min, Some, None, Result, Ok, Err}
use Rattle.glif.specs.declared.shape.Outline.{Outline}
use Rattle.glif.specs.Limits.{IsWithinLimits}
use Rattle.glif.specs.FirstOutside.{first_outside}
use Rattle.filters.specs.declared.refusal.FilterRefusal.{FilterRefusal}
use Rattle.filters.specs.declared.refusal.FilterRefusal.TheVariants.{NoMemory, Range}

-- the image, which is within limits and so has no number out of them; or the first such number, which it has exactly
-- where it isn't within limits; or want of memory, which says nothing of it
abbrev pub Applies : Outline → Result Outline FilterRefusal → Type 0
Applies image (Ok outline) = (outline ≡ image) × IsWithinLimits image × (first_outside image ≡ None)
Applies image (Err (Range number)) = first_outside image ≡ Some number
Applies image (Err NoMemory) = Unit {0}

-- a count with one more call, which stands still at the greatest 64-bit number
abbrev pub counted : ℕ → ℕ
counted touches = min (touches + 1) (2 ^ 64 - 1)
