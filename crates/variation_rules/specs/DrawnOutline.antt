-- The outline and the advance that tuple variations draw over a default drawing (OpenType, "gvar"), in
-- 65536ths of a font unit.
use Rattle.std.specs.Prelude.{◌≡◌, ℕ, ℤ, pos, ◌+◌, ◌+ℤ◌, ◌*ℤ◌, List, [], ◌∷◌, take, drop, Option, Some, None, unwrap_or, if◌then◌else◌, nat_eq, slice_index_or}
use Rattle.fixpoint.specs.declared.plane.Pair.{Pair}
use Rattle.variation_rules.specs.InferredDelta.{FillsContour, still}
use Rattle.variation_rules.specs.Scalar.{scalar_of}
use Rattle.variation_rules.specs.declared.tuple.TupleVariation.{TupleVariation}

-- the delta that a tuple names for a point, None where it names none
abbrev pub named_delta : List ℕ → List Pair → ℕ → Option Pair
named_delta [] _ point = None
named_delta (p ∷ points) [] point = None
named_delta (p ∷ points) (delta ∷ deltas) point = if nat_eq p point then Some delta else named_delta points deltas point

-- The deltas of all outline points in one tuple, contour by contour; the lengths are those of the contours.
abbrev pub FillsContours : List ℕ → List Pair → (ℕ → Option Pair) → List Pair → Type 0
FillsContours [] points given deltas = deltas ≡ []
FillsContours (n ∷ lengths) points given deltas =
    FillsContour (take n points) given (take n deltas) × FillsContours lengths (drop n points) (λ i. given (n + i)) (drop n deltas)

-- each tuple has its list of deltas of all outline points, inferred on the default drawing
abbrev pub Fills : List ℕ → List Pair → List TupleVariation → List (List Pair) → Type 0
Fills lengths points [] [] = Unit {0}
Fills lengths points [] (_ ∷ _) = ⊥
Fills lengths points (_ ∷ _) [] = ⊥
Fills lengths points (tuple ∷ tuples) (deltas ∷ fills) =
    FillsContours lengths points (named_delta tuple.points tuple.deltas) deltas × Fills lengths points tuples fills

-- the sum over the tuples of scalar times delta
abbrev pub movement : (Pair → ℤ) → List ℤ → List TupleVariation → List (List Pair) → ℕ → ℤ
movement part at [] _ point = pos 0
movement part at (tuple ∷ tuples) [] point = pos 0
movement part at (tuple ∷ tuples) (deltas ∷ fills) point =
    (scalar_of 16 tuple.region at *ℤ part (slice_index_or deltas point still)) +ℤ movement part at tuples fills point

-- one coordinate of an outline point at a location
abbrev pub drawn : (Pair → ℤ) → List Pair → List ℤ → List TupleVariation → List (List Pair) → ℕ → ℤ
drawn part points at tuples fills point =
    (pos 65536 *ℤ part (slice_index_or points point still)) +ℤ movement part at tuples fills point

-- phantom points are never inferred: one that a tuple doesn't name doesn't move
abbrev pub phantom_movement : List ℤ → List TupleVariation → ℕ → ℤ
phantom_movement at [] point = pos 0
phantom_movement at (tuple ∷ tuples) point =
    (scalar_of 16 tuple.region at *ℤ (unwrap_or (named_delta tuple.points tuple.deltas point) still).x) +ℤ phantom_movement at tuples point

-- the advance at a location: the second phantom point, of a glyph with so many outline points, moves from it
abbrev pub drawn_advance : ℤ → ℕ → List ℤ → List TupleVariation → ℤ
drawn_advance advance outline_points at tuples = (pos 65536 *ℤ advance) +ℤ phantom_movement at tuples (outline_points + 1)
