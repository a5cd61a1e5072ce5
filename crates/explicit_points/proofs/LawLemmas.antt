-- The law of the explicit points.
use Rattle.std.proofs.Common.{◌≡◌, ℕ, ◌+◌, ◌-◌, ◌<◌, ◌≤◌, ◌⊎◌, List, [], ◌∷◌, ◌++◌, length, take, drop, get_or, All, ◌↔◌, Some, None, inl, inr, sym, ◌∙◌, ap, subst, ⊎_elim, arith}
use Rattle.std.proofs.lemmas.List.{length-take, length-drop, get_or-take, get_or-drop, take-append-drop}
use Rattle.std.proofs.lemmas.List.Elements.{All-append, All-take, All-drop}
use Rattle.std.specs.Option.{unwrap_or}
use Rattle.fixpoint.specs.declared.plane.Pair.{Pair}
use Rattle.variation_rules.specs.InferredDelta.{still}
use Rattle.variation_rules.specs.PackedPoints.{RisesWithin}
use Rattle.iup.specs.Arcs.{given_by}
use Rattle.iup.proofs.SetLemmas.{IsIn, in_or_not, given_in, given_out}
use Rattle.explicit_points.specs.ExplicitPoints.{IsGlyph, AreLeastSets, AreExplicit, ExplicitOnce, ExplicitFills, ExplicitPhantoms, moving_from}
use Rattle.explicit_points.proofs.ExplicitLemmas.{fills_from}
use Rattle.explicit_points.proofs.MovingLemmas.{in_rising, moving_rises, moving_all, still_of_none, none_of_still}
use Rattle.explicit_points.proofs.SetsLemmas.{sets_once, sets_rise, rises_join, nil_parts, still_of_no_set, no_set_of_still}

-- ---- members of a list after another

before : (x : ℕ) (xs ys : List ℕ) → IsIn x xs → IsIn x (xs ++ ys)
before x [] ys there = absurd there
before x (z ∷ xs) ys (inl same) = inl same
before x (z ∷ xs) ys (inr later) = inr (before x xs ys later)

in_end : (x : ℕ) (xs ys : List ℕ) → IsIn x ys → IsIn x (xs ++ ys)
in_end x [] ys there = there
in_end x (z ∷ xs) ys there = inr (in_end x xs ys there)

in_parts : (x : ℕ) (xs ys : List ℕ) → IsIn x (xs ++ ys) → IsIn x xs ⊎ IsIn x ys
in_parts x [] ys there = inr there
in_parts x (z ∷ xs) ys (inl same) = inl (inl same)
in_parts x (z ∷ xs) ys (inr later) =
    ⊎_elim
    (λ (prefix : IsIn x xs). inl (inr prefix))
    (λ (end : IsIn x ys). inr end)
    (in_parts x xs ys later)

-- ---- the three parts of the law

pub explicit_once : ExplicitOnce
explicit_once lengths points deltas named other first second =
    let same = sets_once 0 lengths points (take (length points) deltas) first.outline second.outline first.least second.least in
    first.all ∙ (ap (λ (xs : List ℕ). xs ++ moving_from (length points) (drop (length points) deltas)) same ∙ sym second.all)

module _ (lengths : List ℕ) (points deltas : List Pair) (named : List ℕ) (glyph : IsGlyph lengths points deltas) (are : AreExplicit lengths points deltas named) where
  -- an outline point is named where its contour's set has it
  outline_in : (i : ℕ) → i < length points → IsIn (0 + i) are.outline → given_by named deltas i ≡ Some (get_or (take (length points) deltas) i still)
  outline_in i inside there =
      let n = length points in
      let here : 0 + i ≡ i = omega arith in
      let member : IsIn i named = subst (λ (xs : List ℕ). IsIn i xs) (sym are.all) (before i are.outline (moving_from n (drop n deltas)) (subst (λ x. IsIn x are.outline) here there)) in
      given_in named deltas i member ∙ ap (λ (d : Pair). Some d) (sym (get_or-take n deltas i still inside))

  outline_out : (i : ℕ) → i < length points → (IsIn (0 + i) are.outline → ⊥) → given_by named deltas i ≡ None
  outline_out i inside absent =
      let n = length points in
      let here : i ≡ 0 + i = omega arith in
      given_out named deltas i
      (λ there. ⊎_elim
      (λ (prefix : IsIn i are.outline). absent (subst (λ x. IsIn x are.outline) here prefix))
      (λ (end : IsIn i (moving_from n (drop n deltas))).
      omega (arith, (in_rising n (n + length (drop n deltas)) (moving_from n (drop n deltas)) i (moving_rises n (n + length (drop n deltas)) (drop n deltas) (omega arith)) end).0))
      (in_parts i are.outline (moving_from n (drop n deltas)) (subst (λ (xs : List ℕ). IsIn i xs) are.all there)))

  phantom_is : (phantom : ℕ) → length points ≤ phantom → unwrap_or (given_by named deltas phantom) still ≡ get_or deltas phantom still
  phantom_is phantom beyond =
      let n = length points in
      let k = phantom - n in
      let index : n + k ≡ phantom = omega arith in
      ⊎_elim
      (λ (there : IsIn phantom named). ap (λ o. unwrap_or o still) (given_in named deltas phantom there))
      (λ (absent : IsIn phantom named → ⊥).
      let alone : get_or (drop n deltas) k still ≡ still = moving_all n k (drop n deltas)
      (λ there. absent (subst (λ (xs : List ℕ). IsIn phantom xs) (sym are.all) (in_end phantom are.outline (moving_from n (drop n deltas)) (subst (λ x. IsIn x (moving_from n (drop n deltas))) index there))))
      in
      ap (λ o. unwrap_or o still) (given_out named deltas phantom absent)
      ∙ (sym alone ∙ (get_or-drop n deltas k still ∙ ap (λ x. get_or deltas x still) index)))
      (in_or_not phantom named)

pub explicit_fills : ExplicitFills
explicit_fills lengths points deltas named glyph are =
    fills_from 0 lengths points (take (length points) deltas) are.outline (given_by named deltas) glyph.contours glyph.whole
    (omega (arith, length-take (length points) deltas, glyph.phantom_points)) are.least
    (outline_in lengths points deltas named glyph are)
    (outline_out lengths points deltas named glyph are)

pub explicit_phantoms : ExplicitPhantoms
explicit_phantoms lengths points deltas named phantom glyph are beyond inside = phantom_is lengths points deltas named glyph are phantom beyond

-- ---- what the list tells callers

pub explicit_rise : (lengths : List ℕ) (points deltas : List Pair) (named : List ℕ) → IsGlyph lengths points deltas → AreExplicit lengths points deltas named → RisesWithin 0 (length deltas) named
explicit_rise lengths points deltas named glyph are =
    let n = length points in
    let size : length deltas ≡ n + 4 = glyph.phantom_points in
    let outline = sets_rise 0 n lengths points (take n deltas) are.outline glyph.whole (omega arith) are.least in
    let phantom = moving_rises n (length deltas) (drop n deltas) (omega (arith, length-drop n deltas)) in
    subst (λ (xs : List ℕ). RisesWithin 0 (length deltas) xs) (sym are.all)
    (rises_join 0 n (length deltas) are.outline (moving_from n (drop n deltas)) (omega arith) (omega arith) outline phantom)

pub explicit_none : (lengths : List ℕ) (points deltas : List Pair) (named : List ℕ) → IsGlyph lengths points deltas → AreExplicit lengths points deltas named → ((named ≡ []) ↔ All (λ delta. delta ≡ still) deltas)
explicit_none lengths points deltas named glyph are =
    let n = length points in
    let size : length deltas ≡ n + 4 = glyph.phantom_points in (
      λ none.
          let parts = nil_parts are.outline (moving_from n (drop n deltas)) (sym are.all ∙ none) in
          let outline = still_of_no_set 0 lengths points (take n deltas) are.outline glyph.whole (omega (arith, length-take n deltas)) are.least parts.0 in
          let phantom = still_of_none n (drop n deltas) parts.1 in
          subst (λ (ds : List Pair). All (λ delta. delta ≡ still) ds) (take-append-drop n deltas) (All-append (λ (delta : Pair). delta ≡ still) (take n deltas) (drop n deltas) outline phantom),
      λ all.
          let outline = no_set_of_still 0 lengths points (take n deltas) are.outline are.least (All-take (λ (delta : Pair). delta ≡ still) n deltas all) in
          let phantom = none_of_still n (drop n deltas) (All-drop (λ (delta : Pair). delta ≡ still) n deltas all) in
          are.all ∙ (ap (λ (xs : List ℕ). xs ++ moving_from n (drop n deltas)) outline ∙ phantom),
    )

-- ---- the outline and the phantom points apart

-- the least sets of the outline, and after them the phantom points that move
pub explicit_of : (lengths : List ℕ) (points deltas own after : List Pair) (outline named : List ℕ) → own ≡ take (length points) deltas → after ≡ drop (length points) deltas → AreLeastSets 0 lengths points own outline → named ≡ outline ++ moving_from (length points) after → AreExplicit lengths points deltas named
explicit_of lengths points deltas own after outline named prefix back least all = record {
  outline = outline;
  least = subst (λ (ds : List Pair). AreLeastSets 0 lengths points ds outline) prefix least;
  all = all ∙ ap (λ (ds : List Pair). outline ++ moving_from (length points) ds) back;
}
