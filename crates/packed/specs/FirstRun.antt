-- The run with which maximal runs of a list begin: `class_of` tells the class of a value, and a run has no
-- more than `longest` values.
use Rattle.std.specs.Prelude.{◌≡◌, ℕ, ◌<◌, ◌≤◌, List, [], ◌∷◌, ◌++◌, length, All}

-- the list begins with a value of the class
abbrev pub GoesOn : {X C : Type 0} → (X → C) → C → List X → Type 0
GoesOn class_of class [] = ⊥
GoesOn class_of class (value ∷ _) = class_of value ≡ class

-- the values are a run of one class and what comes after it, and the run is as long as it can be
pub record BeginsWithRun {X C : Type 0} (class_of : X → C) (longest : ℕ) (class : C) (run after values : List X) : Type 0 where
  pub whole : values ≡ run ++ after
  pub some : 0 < length run
  pub few : length run ≤ longest
  pub own : All (λ value. class_of value ≡ class) run
  pub long : GoesOn class_of class after → length run ≡ longest
