-- What the drawing comes to where a tuple names every point, and where there is one tuple.
use Rattle.std.proofs.Common.{◌≡◌, ℕ, ℤ, zero, suc, ◌+◌, ◌%◌, ◌<◌, ◌≤◌, min, ◌+ℤ◌, ◌*ℤ◌, List, [], ◌∷◌, length, take, drop, get_or, Option, Some, None, sum, refl, sym, ◌∙◌, ap, arith}
use Rattle.std.proofs.lemmas.Bool.{eq-eqb, ne_eqb}
use Rattle.std.proofs.lemmas.List.{get_or-take, get_or-drop, length-take, length-drop, nil_from_length, drop_more}
use Rattle.std.proofs.lemmas.List.Sums.{sum_by-cons}
use Rattle.std.proofs.Math.IntN.{+ℤ_idr, +ℤ_assoc}
use Rattle.std.proofs.Math.Nat.{mod-eq_of_lt}
use Rattle.std.specs.Option.{unwrap_or}
use Rattle.fixpoint.specs.declared.plane.Pair.{Pair}
use Rattle.variation_rules.specs.PackedPoints.{count_from}
use Rattle.variation_rules.specs.InferredDelta.{still, around, FillsContour}
use Rattle.variation_rules.specs.DrawnOutline.{named_delta, FillsContours, movement, phantom_movement}
use Rattle.variation_rules.specs.Scalar.{scalar_of}
use Rattle.variation_rules.specs.declared.tuple.TupleVariation.{TupleVariation}

-- the first point named has the first delta
pub named_first : (point : ℕ) (points : List ℕ) (delta : Pair) (deltas : List Pair) (i : ℕ) → point ≡ i → named_delta (point ∷ points) (delta ∷ deltas) i ≡ Some delta
named_first point points delta deltas i same = rw (eq-eqb point i same)

-- and any other is looked for among the rest
pub named_later : (point : ℕ) (points : List ℕ) (delta : Pair) (deltas : List Pair) (i : ℕ) → (point ≡ i → ⊥) → named_delta (point ∷ points) (delta ∷ deltas) i ≡ named_delta points deltas i
named_later point points delta deltas i other = rw (ne_eqb point i other)

pub named_further : (points : List ℕ) (deltas : List Pair) (k i : ℕ) → k < length points → k < length deltas → (get_or points k 0 ≡ i → ⊥) → named_delta (drop k points) (drop k deltas) i ≡ named_delta (drop (k + 1) points) (drop (k + 1) deltas) i
named_further points deltas k i inside also other =
    rw (drop_more points k 0 inside, drop_more deltas k still also)
    (named_later (get_or points k 0) (drop (k + 1) points) (get_or deltas k still) (drop (k + 1) deltas) i other)

pub named_end : (points : List ℕ) (deltas : List Pair) (i : ℕ) → min (length points) (length deltas) ≤ 0 → named_delta points deltas i ≡ None
named_end [] deltas i ended = refl
named_end (p ∷ points) [] i ended = refl
named_end (p ∷ points) (delta ∷ deltas) i ended = absurd (omega arith)

-- a list that names so many points, from one on, has the delta of each at its place
named_from : (n first i : ℕ) (deltas : List Pair) → n ≤ length deltas → i < n → named_delta (count_from n first) deltas (first + i) ≡ Some (get_or deltas i still)
named_from zero first i deltas enough below = absurd (omega arith)
named_from (suc n) first i [] enough below = absurd (omega arith)
named_from (suc n) first zero (delta ∷ deltas) enough below =
    named_first first (count_from n (first + 1)) delta deltas (first + 0) (omega arith)
named_from (suc n) first (suc i) (delta ∷ deltas) enough below =
    let step : first + suc i ≡ first + 1 + i = omega arith in
    named_later first (count_from n (first + 1)) delta deltas (first + suc i) (λ e. absurd (omega arith))
    ∙ (ap (named_delta (count_from n (first + 1)) deltas) step ∙ named_from n (first + 1) i deltas (omega arith) (omega arith))

-- where all points are named, each has the delta at its place
pub all_named : (total i : ℕ) (deltas : List Pair) → length deltas ≡ total → i < total → named_delta (count_from total 0) deltas i ≡ Some (get_or deltas i still)
all_named total i deltas one_each below =
    let from : 0 + i ≡ i = omega arith in
    ap (named_delta (count_from total 0) deltas) (sym from) ∙ named_from total 0 i deltas (omega arith) below

-- a place of the cycle itself
pub around_within : (pairs : List Pair) (i : ℕ) → i < length pairs → around pairs i ≡ get_or pairs i still
around_within pairs i below = ap (λ k. get_or pairs k still) (mod-eq_of_lt below)

-- a contour whose every point is given a delta is filled by these
contour_of_given : (points : List Pair) (given : ℕ → Option Pair) (deltas : List Pair) → length deltas ≡ length points → ((i : ℕ) → i < length points → given i ≡ Some (get_or deltas i still)) → FillsContour points given deltas
contour_of_given points given deltas one_each all = record {
  one_each = one_each;
  named = λ i delta below is.
      let other = all i below in
      let at = around_within deltas i (omega arith) in cc;
  unmoved = λ none i below. let other = all i below in let nothing = none i below in cc;
  inferred = λ u q v some near.
      let inside : q % length points < length points = omega arith in
      let other = all (q % length points) inside in
      let nothing = near.none_between q near.before near.after in
      absurd cc;
}

-- and so are the contours of an outline
pub contours_of_given : (lengths : List ℕ) (points : List Pair) (given : ℕ → Option Pair) (deltas : List Pair) → sum lengths ≡ length points → length deltas ≡ length points → ((i : ℕ) → i < length points → given i ≡ Some (get_or deltas i still)) → FillsContours lengths points given deltas
contours_of_given [] points given deltas whole one_each all = nil_from_length deltas (omega arith)
contours_of_given (n ∷ lengths) points given deltas whole one_each all =
    let parts : n + sum lengths ≡ length points = sym (sum_by-cons (λ k. k) n lengths) ∙ whole in (
      contour_of_given (take n points) given (take n deltas)
          (omega (arith, length-take n points, length-take n deltas))
          (λ i below.
          let inside : (i < n) × (i < length points) = omega (arith, length-take n points) in
          all i inside.1 ∙ ap Some (sym (get_or-take n deltas i still inside.0))),
      contours_of_given lengths (drop n points) (λ i. given (n + i)) (drop n deltas)
          (omega (arith, length-drop n points))
          (omega (arith, length-drop n points, length-drop n deltas))
          (λ i below.
          let inside : n + i < length points = omega (arith, length-drop n points) in
          all (n + i) inside ∙ ap Some (sym (get_or-drop n deltas i still))),
    )

-- what one tuple more adds to a point's movement, where the tuples left complete it
pub movement_step : (part : Pair → ℤ) (at : List ℤ) (tuples : List TupleVariation) (fills : List (List Pair)) (k point : ℕ) (tuple : TupleVariation) (fill : List Pair) (so_far moved whole : ℤ) → k < length tuples → k < length fills → tuple ≡ get_or tuples k tuple → fill ≡ get_or fills k fill → moved ≡ scalar_of 16 tuple.region at *ℤ part (get_or fill point still) → so_far +ℤ movement part at (drop k tuples) (drop k fills) point ≡ whole → (so_far +ℤ moved) +ℤ movement part at (drop (k + 1) tuples) (drop (k + 1) fills) point ≡ whole
movement_step part at tuples fills k point tuple fill so_far moved whole inside also tuple_is fill_is moved_is rest =
    let next : drop k tuples ≡ tuple ∷ drop (k + 1) tuples = rw (drop_more tuples k tuple inside, ← tuple_is) in
    let next_fill : drop k fills ≡ fill ∷ drop (k + 1) fills = rw (drop_more fills k fill also, ← fill_is) in
    let later = movement part at (drop (k + 1) tuples) (drop (k + 1) fills) point in
    +ℤ_assoc so_far moved later ∙ (ap (λ z. so_far +ℤ (z +ℤ later)) moved_is ∙ rw (next, next_fill) at rest)

-- the same of a phantom point
pub phantom_step : (at : List ℤ) (tuples : List TupleVariation) (k point : ℕ) (tuple : TupleVariation) (so_far moved whole : ℤ) → k < length tuples → tuple ≡ get_or tuples k tuple → moved ≡ scalar_of 16 tuple.region at *ℤ (unwrap_or (named_delta tuple.points tuple.deltas point) still).x → so_far +ℤ phantom_movement at (drop k tuples) point ≡ whole → (so_far +ℤ moved) +ℤ phantom_movement at (drop (k + 1) tuples) point ≡ whole
phantom_step at tuples k point tuple so_far moved whole inside tuple_is moved_is rest =
    let next : drop k tuples ≡ tuple ∷ drop (k + 1) tuples = rw (drop_more tuples k tuple inside, ← tuple_is) in
    let later = phantom_movement at (drop (k + 1) tuples) point in
    +ℤ_assoc so_far moved later ∙ (ap (λ z. so_far +ℤ (z +ℤ later)) moved_is ∙ rw next at rest)
