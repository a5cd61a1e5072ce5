-- What choosing the filters that words ask for answers.
use Rattle.std.specs.Prelude.{◌≡◌, ℕ, List, Option, Some, None, Result, Ok, Err}
use Rattle.vfb.specs.Calls.{Image, Misuse, called_filter}
use Rattle.vfb.specs.Ending.{shown_misuse}
use Rattle.vfb.specs.declared.ending.Ending.{Ending}
use Rattle.vfb.specs.declared.ending.Ending.TheVariants.{Usage, NoMemory}

-- the filter that a word of this name asks for, whose image is told, or none
abbrev pub Configures : {A : Type 0} → (A → Image) → Result Image Misuse → List ℕ → Option A → Type 0
Configures image_of reading name (Some filter) = reading ≡ Ok (image_of filter)
Configures image_of reading name None = reading ≡ Err (called_filter name)

-- what is wrong; want of memory is free
abbrev pub StopsBy : Result (List Image) Misuse → Ending → Type 0
StopsBy reading (Usage misuse) = reading ≡ Err (shown_misuse misuse)
StopsBy reading NoMemory = Unit {0}
StopsBy reading _ = ⊥

-- the filters that all words ask for, whose images are told, or what is wrong
abbrev pub Chooses : {V : Type 0} → (V → List Image) → Result (List Image) Misuse → Result V Ending → Type 0
Chooses images_of reading (Ok filters) = reading ≡ Ok (images_of filters)
Chooses images_of reading (Err ending) = StopsBy reading ending
