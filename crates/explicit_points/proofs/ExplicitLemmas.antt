-- The least sets of contours: their members, that there is one list of them, and that they fill the contours.
use Rattle.std.proofs.Common.{◌≡◌, ℕ, ◌+◌, ◌<◌, ◌≤◌, ◌⊎◌, List, [], ◌∷◌, ◌++◌, length, map, take, drop, get_or, sum, All, Option, Some, None, inl, inr, refl, sym, ◌∙◌, ap, subst, ⊎_elim, arith}
use Rattle.std.proofs.lemmas.List.{length-take, length-drop, get_or-take, get_or-drop}
use Rattle.std.proofs.lemmas.List.Elements.{All-head, All-tail}
use Rattle.std.proofs.lemmas.List.Sums.{sum_by-cons}
use Rattle.fixpoint.specs.declared.plane.Pair.{Pair}
use Rattle.variation_rules.specs.InferredDelta.{still}
use Rattle.variation_rules.specs.DrawnOutline.{FillsContours}
use Rattle.variation_rules.proofs.FillingLemmas.{contour_respects}
use Rattle.iup.specs.Arcs.{RisesFrom, given_by}
use Rattle.iup.proofs.SetLemmas.{IsIn, in_or_not, in_bounds, given_in, given_out}
use Rattle.iup.proofs.FillLemmas.{infers_as_filled}
use Rattle.explicit_points.specs.ExplicitPoints.{IsCount, AreLeastSets}

-- ---- members of numbers put after others

pub in_shifted : (start k : ℕ) (set more : List ℕ) → IsIn k set → IsIn (start + k) (map (λ point. start + point) set ++ more)
in_shifted start k [] more there = absurd there
in_shifted start k (x ∷ xs) more (inl same) = inl (ap (λ n. start + n) same)
in_shifted start k (x ∷ xs) more (inr later) = inr (in_shifted start k xs more later)

pub in_after : (start x : ℕ) (set more : List ℕ) → IsIn x more → IsIn x (map (λ point. start + point) set ++ more)
in_after start x [] more there = there
in_after start x (y ∷ set) more there = inr (in_after start x set more there)

-- a member is one of the first or one of those after
pub in_either : (start x : ℕ) (set more : List ℕ) → IsIn x (map (λ point. start + point) set ++ more) → ((k : ℕ) × IsIn k set × (start + k ≡ x)) ⊎ IsIn x more
in_either start x [] more there = inr there
in_either start x (y ∷ set) more (inl same) = inl (y, inl refl, same)
in_either start x (y ∷ set) more (inr later) =
    ⊎_elim
    (λ (own : (k : ℕ) × IsIn k set × (start + k ≡ x)). inl (own.0, inr own.1, own.2))
    (λ (after : IsIn x more). inr after)
    (in_either start x set more later)

-- no named point stands before the first
pub named_above : (start : ℕ) (lengths : List ℕ) (points ds : List Pair) (named : List ℕ) (x : ℕ) → AreLeastSets start lengths points ds named → IsIn x named → start ≤ x
named_above start [] points ds named x least there = absurd (subst (λ (w : List ℕ). IsIn x w) least there)
named_above start (n ∷ lengths) points ds named x least there =
    ⊎_elim
    (λ (own : (k : ℕ) × IsIn k least.0 × (start + k ≡ x)). omega (arith, own.2))
    (λ (after : IsIn x least.1). omega (arith, named_above (start + n) lengths (drop n points) (drop n ds) least.1 x least.4 after))
    (in_either start x least.0 least.1 (subst (λ (w : List ℕ). IsIn x w) least.3 there))

-- ---- what is given at the members fills the contours

-- the contours after the first have the other points
pub rest_is_whole : (n : ℕ) (lengths : List ℕ) (points : List Pair) → sum (n ∷ lengths) ≡ length points → (n ≤ length points) × (sum lengths ≡ length (drop n points))
rest_is_whole n lengths points whole =
    let parts : n + sum lengths ≡ length points = sym (sum_by-cons (λ k. k) n lengths) ∙ whole in
    (omega arith, omega (arith, length-drop n points))

-- no list but the empty one has no items
pub nil_of_length : {X : Type 0} (xs : List X) → length xs ≡ 0 → xs ≡ []
nil_of_length [] none = refl
nil_of_length (x ∷ xs) none = absurd (omega arith)

-- a member within the first contour is one of its set
pub in_first : (start n k : ℕ) (lengths : List ℕ) (points ds : List Pair) (set more : List ℕ) → k < n → AreLeastSets (start + n) lengths points ds more → IsIn (start + k) (map (λ point. start + point) set ++ more) → IsIn k set
in_first start n k lengths points ds set more inside least there =
    ⊎_elim
    (λ (own : (j : ℕ) × IsIn j set × (start + j ≡ start + k)).
    let same : own.0 ≡ k = omega (arith, own.2) in
    subst (λ j. IsIn j set) same own.1)
    (λ (after : IsIn (start + k) more). absurd (omega (arith, named_above (start + n) lengths points ds more (start + k) least after)))
    (in_either start (start + k) set more there)

-- a member beyond the first contour is one of the others'
pub in_others : (start n i : ℕ) (set more : List ℕ) → RisesFrom 0 n set → IsIn (start + (n + i)) (map (λ point. start + point) set ++ more) → IsIn (start + (n + i)) more
in_others start n i set more rises there =
    ⊎_elim
    (λ (own : (j : ℕ) × IsIn j set × (start + j ≡ start + (n + i))). absurd (omega (arith, own.2, (in_bounds 0 n set own.0 rises own.1).1)))
    (λ (after : IsIn (start + (n + i)) more). after)
    (in_either start (start + (n + i)) set more there)

pub fills_from : (start : ℕ) (lengths : List ℕ) (points ds : List Pair) (named : List ℕ) (given : ℕ → Option Pair)
    → All IsCount lengths → sum lengths ≡ length points → length ds ≡ length points → AreLeastSets start lengths points ds named
    → ((i : ℕ) → i < length points → IsIn (start + i) named → given i ≡ Some (get_or ds i still))
    → ((i : ℕ) → i < length points → (IsIn (start + i) named → ⊥) → given i ≡ None)
    → FillsContours lengths points given ds
fills_from start [] points ds named given counts whole same least inside outside = nil_of_length ds (same ∙ sym whole)
fills_from start (n ∷ lengths) points ds named given counts whole same least inside outside =
    let rest = rest_is_whole n lengths points whole in
    let fits : n ≤ length points = rest.0 in
    let some : 0 < n = (All-head IsCount n lengths counts).some in
    let size : length (take n points) ≡ n = omega (arith, length-take n points) in
    let set = least.0 in
    let more = least.1 in
    let one = least.2 in
    let rises : RisesFrom 0 n set = subst (λ m. RisesFrom 0 m set) size one.is_set in
    let own : (k : ℕ) → k < length (take n points) → given_by set (take n ds) k ≡ given k =
    λ k below. let near : k < n = omega arith in
    ⊎_elim
    (λ (there : IsIn k set).
    given_in set (take n ds) k there ∙ (ap (λ (d : Pair). Some d) (get_or-take n ds k still near)
    ∙ sym (inside k (omega arith) (subst (λ (w : List ℕ). IsIn (start + k) w) (sym least.3) (in_shifted start k set more there)))))
    (λ (absent : IsIn k set → ⊥).
    given_out set (take n ds) k absent
    ∙ sym (outside k (omega arith) (λ there. absent (in_first start n k lengths (drop n points) (drop n ds) set more near least.4 (subst (λ (w : List ℕ). IsIn (start + k) w) least.3 there)))))
    (in_or_not k set)
    in (
      contour_respects (take n points) (given_by set (take n ds)) given (take n ds) own
          ((infers_as_filled (take n points) (take n ds) set (omega arith) (omega (arith, length-take n ds)) one.is_set).0 one.infers),
      fills_from (start + n) lengths (drop n points) (drop n ds) more (λ i. given (n + i))
          (All-tail IsCount n lengths counts) rest.1 (omega (arith, length-drop n points, length-drop n ds)) least.4
          (λ i below there.
          let on : start + n + i ≡ start + (n + i) = omega arith in
          inside (n + i) (omega (arith, length-drop n points))
          (subst (λ (w : List ℕ). IsIn (start + (n + i)) w) (sym least.3) (in_after start (start + (n + i)) set more (subst (λ x. IsIn x more) on there)))
          ∙ ap (λ (d : Pair). Some d) (sym (get_or-drop n ds i still)))
          (λ i below absent.
          let on : start + n + i ≡ start + (n + i) = omega arith in
          outside (n + i) (omega (arith, length-drop n points))
          (λ there. absent (subst (λ x. IsIn x more) (sym on) (in_others start n i set more rises (subst (λ (w : List ℕ). IsIn (start + (n + i)) w) least.3 there))))),
    )
