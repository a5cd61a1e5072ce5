-- Sets of a contour's points from which all its deltas are inferred (OpenType, "Inferred deltas for un-referenced
-- point numbers"). The cycle of the contour is rolled out: a place is any number, counted on round the cycle.
use Rattle.std.specs.Prelude.{◌≡◌, ℕ, ◌+◌, ◌<◌, ◌≤◌, ◌⊎◌, List, [], ◌∷◌, length, All, Option, Some, None, if◌then◌else◌, ◌==◌, slice_index_or}
use Rattle.fixpoint.specs.declared.plane.Pair.{Pair}
use Rattle.variation_rules.specs.InferredDelta.{Inferred, still}
use Rattle.variation_rules.specs.FontUnits.{AreFWords}

-- The points of a contour in the default drawing and their deltas, all of 16 bits.
pub record IsContour (points deltas : List Pair) : Type 0 where
  pub some : 0 < length points
  pub few : length points ≤ 1024
  pub same : length deltas ≡ length points
  pub points_fit : All AreFWords points
  pub deltas_fit : All AreFWords deltas

-- the deltas at the places between two are those inferred from the two
abbrev pub Spans : List Pair → List Pair → ℕ → ℕ → Type 0
Spans points deltas from to = (q : ℕ) → from < q → q < to → Inferred points deltas from q to

-- the arc of so many points from one: those after it, but for the last, are inferred from it and the last
abbrev pub Arc : List Pair → List Pair → ℕ → ℕ → Type 0
Arc points deltas i k = Spans points deltas i (i + k)

-- each of the places and the next one span an arc, and so do the last of them and the end
abbrev pub Links : List Pair → List Pair → ℕ → List ℕ → ℕ → Type 0
Links points deltas from [] end = Spans points deltas from end
Links points deltas from (x ∷ xs) end = Spans points deltas from x × Links points deltas x xs end

-- All deltas are inferred from the points of the set: each member and the next one, round the contour, span an arc.
-- From no point, nothing moves.
abbrev pub Infers : List Pair → List Pair → List ℕ → Type 0
Infers points deltas [] = All (λ delta. delta ≡ still) deltas
Infers points deltas (a ∷ xs) = Links points deltas a xs (a + length points)

-- a rising list of numbers, from one on and below n
abbrev pub RisesFrom : ℕ → ℕ → List ℕ → Type 0
RisesFrom low n [] = Unit {0}
RisesFrom low n (x ∷ xs) = (low ≤ x) × (x < n) × RisesFrom (x + 1) n xs

-- the list is the other, or comes before it in lexicographic order
abbrev pub IsFirstOf : List ℕ → List ℕ → Type 0
IsFirstOf [] ys = Unit {0}
IsFirstOf (x ∷ xs) [] = ⊥
IsFirstOf (x ∷ xs) (y ∷ ys) = (x < y) ⊎ ((x ≡ y) × IsFirstOf xs ys)

-- the least set: no set of fewer points infers the deltas, and none of as many that does comes before it
pub record IsLeastSet (points deltas : List Pair) (set : List ℕ) : Type 0 where
  pub is_set : RisesFrom 0 (length points) set
  pub infers : Infers points deltas set
  pub fewest : (other : List ℕ) → RisesFrom 0 (length points) other → Infers points deltas other → length set ≤ length other
  pub first : (other : List ℕ) → RisesFrom 0 (length points) other → Infers points deltas other → length other ≡ length set → IsFirstOf set other

-- what a tuple that names the points of a set gives: their deltas, and none to the other points
abbrev pub given_by : List ℕ → List Pair → ℕ → Option Pair
given_by [] deltas i = None
given_by (x ∷ xs) deltas i = if x == i then Some (slice_index_or deltas i still) else given_by xs deltas i
