-- What holds of the sets from which deltas are inferred.
use Rattle.std.specs.Prelude.{◌≡◌, ℕ, ◌<◌, ◌≤◌, ◌↔◌, List, ◌∷◌, length}
use Rattle.fixpoint.specs.declared.plane.Pair.{Pair}
use Rattle.variation_rules.specs.InferredDelta.{FillsContour}
use Rattle.iup.specs.Arcs.{RisesFrom, Infers, given_by}
use Rattle.iup.specs.Bounds.{Bounds}

-- A set infers the deltas exactly where filling the untouched points from it, each from the nearest explicit points
-- before and after it in the cycle, gives every delta.
abbrev pub InfersAsFilled : Type 0
InfersAsFilled = (points deltas : List Pair) (set : List ℕ) → 0 < length points → length deltas ≡ length points → RisesFrom 0 (length points) set
    → (Infers points deltas set ↔ FillsContour points (given_by set deltas) deltas)

-- right rows of the starts of a pivot bound the size of each set that infers the deltas
abbrev pub RowsBound : Type 0
RowsBound = (points deltas : List Pair) (m p a : ℕ) (xs : List ℕ) → length deltas ≡ length points → p < length points → Bounds points deltas m p
    → RisesFrom 0 (length points) (a ∷ xs) → Infers points deltas (a ∷ xs) → m ≤ length (a ∷ xs)
