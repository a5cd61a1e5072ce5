-- An outline through filters one after another.
use Rattle.std.specs.Prelude.{◌≡◌, ℕ, ◌+◌, ℤ, List, [], ◌∷◌, Option, Some, None, Result, Ok, Err}
use Rattle.basics.specs.Reading.{◌>>=◌}
use Rattle.glif.specs.declared.shape.Outline.{Outline}
use Rattle.glif.specs.FirstOutside.{first_outside}
use Rattle.filters.specs.declared.refusal.FilterRefusal.{FilterRefusal}
use Rattle.filters.specs.declared.refusal.FilterRefusal.TheVariants.{NoMemory, Range}

-- the image, or else the number of its filter and the number of it that is out of limits
abbrev pub unless_outside : ℕ → Outline → Option ℤ → Result Outline (ℕ × ℤ)
unless_outside number image None = Ok image
unless_outside number image (Some value) = Err (number, value)

-- the image of an outline under all of the images in order, or the number of the first that isn't within limits,
-- counted on from one, with its first number out of limits
abbrev pub through : ℕ → List (Outline → Outline) → Outline → Result Outline (ℕ × ℤ)
through number [] outline = Ok outline
through number (image ∷ images) outline =
    unless_outside number (image outline) (first_outside (image outline)) >>= through (number + 1) images

-- what a call answers: that, or want of memory, which says nothing of it
abbrev pub AppliesAll : Result Outline (ℕ × ℤ) → Result Outline (ℕ × FilterRefusal) → Type 0
AppliesAll whole (Ok outline) = whole ≡ Ok outline
AppliesAll whole (Err (number, Range value)) = whole ≡ Err (number, value)
AppliesAll whole (Err (number, NoMemory)) = Unit {0}

-- how many of so many filters were applied: all, or those up to the one that refused
abbrev pub applied : ℕ → Result Outline (ℕ × FilterRefusal) → ℕ
applied count (Ok outline) = count
applied count (Err refusal) = refusal.0 + 1
