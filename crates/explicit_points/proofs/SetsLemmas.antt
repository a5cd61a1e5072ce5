-- The least sets of contours: there is one list of them, it rises, and it is empty exactly where nothing moves.
use Rattle.std.proofs.Common.{◌≡◌, ℕ, ◌+◌, ◌<◌, ◌≤◌, List, [], ◌∷◌, ◌++◌, length, map, take, drop, sum, All, refl, sym, ◌∙◌, ap, subst, ⊎_elim, arith}
use Rattle.std.proofs.lemmas.List.{length-take, length-drop, take-append-drop}
use Rattle.std.proofs.lemmas.List.Elements.{All-nil, All-append, All-take, All-drop}
use Rattle.fixpoint.specs.declared.plane.Pair.{Pair}
use Rattle.variation_rules.specs.InferredDelta.{still}
use Rattle.variation_rules.specs.PackedPoints.{RisesWithin}
use Rattle.iup.specs.Arcs.{RisesFrom, Infers, IsFirstOf, IsLeastSet}
use Rattle.explicit_points.specs.ExplicitPoints.{AreLeastSets}
use Rattle.explicit_points.proofs.ExplicitLemmas.{rest_is_whole, nil_of_length}
use Rattle.explicit_points.proofs.MovingLemmas.{rises_from_lower}

-- ---- one list

-- of two lists of one length of which each comes first, or is the other
first_once : (xs ys : List ℕ) → length xs ≡ length ys → IsFirstOf xs ys → IsFirstOf ys xs → xs ≡ ys
first_once [] [] same one other = refl
first_once [] (y ∷ ys) same one other = absurd (omega arith)
first_once (x ∷ xs) [] same one other = absurd (omega arith)
first_once (x ∷ xs) (y ∷ ys) same one other =
    ⊎_elim
    (λ (less : x < y). ⊎_elim
    (λ (more : y < x). absurd (omega arith))
    (λ (equal : (y ≡ x) × IsFirstOf ys xs). absurd (omega (arith, equal.0)))
    other)
    (λ (equal : (x ≡ y) × IsFirstOf xs ys). ⊎_elim
    (λ (more : y < x). absurd (omega (arith, equal.0)))
    (λ (back : (y ≡ x) × IsFirstOf ys xs).
    let head : x ≡ y = equal.0 in
    let tail : xs ≡ ys = first_once xs ys (omega arith) equal.1 back.1 in
    cc)
    other)
    one

-- a contour has one least set
least_once : (points deltas : List Pair) (one other : List ℕ) → IsLeastSet points deltas one → IsLeastSet points deltas other → one ≡ other
least_once points deltas one other first second =
    let no_more : length one ≤ length other = first.fewest other second.is_set second.infers in
    let no_fewer : length other ≤ length one = second.fewest one first.is_set first.infers in
    first_once one other (omega arith)
    (first.first other second.is_set second.infers (omega arith))
    (second.first one first.is_set first.infers (omega arith))

pub sets_once : (start : ℕ) (lengths : List ℕ) (points deltas : List Pair) (one other : List ℕ) → AreLeastSets start lengths points deltas one → AreLeastSets start lengths points deltas other → one ≡ other
sets_once start [] points deltas one other first second = first ∙ sym second
sets_once start (n ∷ lengths) points deltas one other first second =
    let set : first.0 ≡ second.0 = least_once (take n points) (take n deltas) first.0 second.0 first.2 second.2 in
    let more : first.1 ≡ second.1 = sets_once (start + n) lengths (drop n points) (drop n deltas) first.1 second.1 first.4 second.4 in
    first.3 ∙ (ap (λ (xs : List ℕ). map (λ point. start + point) xs ++ first.1) set ∙ (ap (λ (xs : List ℕ). map (λ point. start + point) second.0 ++ xs) more ∙ sym second.3))

-- ---- it rises

shifted_rises : (start low n : ℕ) (set : List ℕ) → RisesFrom low n set → RisesWithin (start + low) (start + n) (map (λ point. start + point) set)
shifted_rises start low n [] rises = tt
shifted_rises start low n (x ∷ xs) rises =
    let above : low ≤ x = rises.0 in
    let below : x < n = rises.1 in
    let on : start + (x + 1) ≡ start + x + 1 = omega arith in (
      omega arith,
      omega arith,
      subst (λ k. RisesWithin k (start + n) (map (λ point. start + point) xs)) on (shifted_rises start (x + 1) n xs rises.2),
    )

-- a rising list after another
pub rises_join : (low mid end : ℕ) (xs ys : List ℕ) → low ≤ mid → mid ≤ end → RisesWithin low mid xs → RisesWithin mid end ys → RisesWithin low end (xs ++ ys)
rises_join low mid end [] ys lower upper first second = rises_from_lower low mid end ys lower second
rises_join low mid end (x ∷ xs) ys lower upper first second =
    let above : low ≤ x = first.0 in
    let below : x < mid = first.1 in
    (above, omega arith, rises_join (x + 1) mid end xs ys (omega arith) upper first.2 second)

pub sets_rise : (start end : ℕ) (lengths : List ℕ) (points deltas : List Pair) (named : List ℕ) → sum lengths ≡ length points → start + length points ≡ end → AreLeastSets start lengths points deltas named → RisesWithin start end named
sets_rise start end [] points deltas named whole all least = subst (λ (xs : List ℕ). RisesWithin start end xs) (sym least) tt
sets_rise start end (n ∷ lengths) points deltas named whole all least =
    let rest = rest_is_whole n lengths points whole in
    let fits : n ≤ length points = rest.0 in
    let size : length (take n points) ≡ n = omega (arith, length-take n points) in
    let own : RisesWithin (start + 0) (start + n) (map (λ point. start + point) least.0) =
    shifted_rises start 0 n least.0 (subst (λ m. RisesFrom 0 m least.0) size least.2.is_set) in
    let others : RisesWithin (start + n) end least.1 = sets_rise (start + n) end lengths (drop n points) (drop n deltas) least.1 rest.1 (omega (arith, length-drop n points)) least.4 in
    subst (λ (xs : List ℕ). RisesWithin start end xs) (sym least.3)
    (rises_from_lower start (start + 0) end (map (λ point. start + point) least.0 ++ least.1) (omega arith)
    (rises_join (start + 0) (start + n) end (map (λ point. start + point) least.0) least.1 (omega arith) (omega arith) own others))

-- ---- it is empty exactly where nothing moves

-- two lists in one that is empty are empty
pub nil_parts : (xs ys : List ℕ) → xs ++ ys ≡ [] → (xs ≡ []) × (ys ≡ [])
nil_parts [] ys none = (refl, none)
nil_parts (x ∷ xs) ys none = absurd cc

nil_of_map : (f : ℕ → ℕ) (xs : List ℕ) → map f xs ≡ [] → xs ≡ []
nil_of_map f [] none = refl
nil_of_map f (x ∷ xs) none = absurd cc

pub still_of_no_set : (start : ℕ) (lengths : List ℕ) (points deltas : List Pair) (named : List ℕ) → sum lengths ≡ length points → length deltas ≡ length points → AreLeastSets start lengths points deltas named → named ≡ [] → All (λ delta. delta ≡ still) deltas
still_of_no_set start [] points deltas named whole same least none =
    subst (λ (ds : List Pair). All (λ delta. delta ≡ still) ds) (sym (nil_of_length deltas (same ∙ sym whole))) (All-nil (λ (delta : Pair). delta ≡ still))
still_of_no_set start (n ∷ lengths) points deltas named whole same least none =
    let rest = rest_is_whole n lengths points whole in
    let parts = nil_parts (map (λ point. start + point) least.0) least.1 (sym least.3 ∙ none) in
    let no_set : least.0 ≡ [] = nil_of_map (λ point. start + point) least.0 parts.0 in
    let own : All (λ delta. delta ≡ still) (take n deltas) = subst (λ (set : List ℕ). Infers (take n points) (take n deltas) set) no_set least.2.infers in
    let others : All (λ delta. delta ≡ still) (drop n deltas) =
    still_of_no_set (start + n) lengths (drop n points) (drop n deltas) least.1 rest.1 (omega (arith, length-drop n points, length-drop n deltas)) least.4 parts.1 in
    subst (λ (ds : List Pair). All (λ delta. delta ≡ still) ds) (take-append-drop n deltas) (All-append (λ (delta : Pair). delta ≡ still) (take n deltas) (drop n deltas) own others)

pub no_set_of_still : (start : ℕ) (lengths : List ℕ) (points deltas : List Pair) (named : List ℕ) → AreLeastSets start lengths points deltas named → All (λ delta. delta ≡ still) deltas → named ≡ []
no_set_of_still start [] points deltas named least all = least
no_set_of_still start (n ∷ lengths) points deltas named least all =
    let fewest : length least.0 ≤ 0 = least.2.fewest [] tt (All-take (λ (delta : Pair). delta ≡ still) n deltas all) in
    let own : least.0 ≡ [] = nil_of_length least.0 (omega arith) in
    let others : least.1 ≡ [] = no_set_of_still (start + n) lengths (drop n points) (drop n deltas) least.1 least.4 (All-drop (λ (delta : Pair). delta ≡ still) n deltas all) in
    least.3 ∙ (ap (λ (xs : List ℕ). map (λ point. start + point) xs ++ least.1) own ∙ others)
