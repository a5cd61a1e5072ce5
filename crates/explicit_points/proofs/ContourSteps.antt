-- The least sets of the contours, contour by contour: what holds before each of them.
use Rattle.std.proofs.Common.{◌≡◌, ℕ, ◌+◌, ◌<◌, ◌≤◌, List, [], ◌∷◌, ◌++◌, length, map, take, drop, get_or, All, refl, sym, subst, append_assoc, append-nil, arith}
use Rattle.std.proofs.lemmas.List.{length-take, length-drop, drop_more, drop_all}
use Rattle.std.proofs.lemmas.List.Elements.{All-nil, All-cons, All-head, All-tail, All-weaker, All-drop}
use Rattle.fixpoint.specs.declared.plane.Pair.{Pair}
use Rattle.variation_rules.specs.FontUnits.{AreFWords}
use Rattle.iup.specs.Arcs.{RisesFrom, IsLeastSet}
use Rattle.explicit_points.specs.ExplicitPoints.{IsCount, IsOutline, AreLeastSets}
use Rattle.explicit_points.proofs.ExplicitLemmas.{rest_is_whole}

-- The sets of the first k contours are named: those of the contours that are left complete them.
pub record AreSetsTo (lengths : List ℕ) (points deltas : List Pair) (k start : ℕ) (points_left deltas_left : List Pair) (named : List ℕ) : Type 0 where
  pub completes : (more : List ℕ) → AreLeastSets start (drop k lengths) points_left deltas_left more → AreLeastSets 0 lengths points deltas (named ++ more)
  pub sound : IsOutline (drop k lengths) points_left deltas_left
  pub index : start + length points_left ≡ length points
  pub few : length points ≤ 4000

-- the contour that comes next, and those after it
pub record IsNext (n : ℕ) (lengths : List ℕ) (points deltas : List Pair) : Type 0 where
  pub inside : n ≤ length points
  pub short : n ≤ 1024
  pub rest : IsOutline lengths (drop n points) (drop n deltas)

next_contour : (n : ℕ) (lengths : List ℕ) (points deltas : List Pair) → IsOutline (n ∷ lengths) points deltas → IsNext n lengths points deltas
next_contour n lengths points deltas outline =
    let rest = rest_is_whole n lengths points outline.whole in
    let fits : n ≤ length points = rest.0 in
    let count = All-head IsCount n lengths outline.contours in
    let short : n ≤ 1024 = count.few in
    let same : length deltas ≡ length points = outline.one_each in
    let few : length points ≤ 4000 = outline.few in
    record {
      inside = fits;
      short = short;
      rest = record {
        contours = All-tail IsCount n lengths outline.contours;
        whole = rest.1;
        few = omega (arith, length-drop n points);
        one_each = omega (arith, length-drop n points, length-drop n deltas);
        points_fit = All-drop AreFWords n points outline.points_fit;
        deltas_fit = All-drop AreFWords n deltas outline.deltas_fit;
      };
    }

pub sets_next : (lengths : List ℕ) (points deltas : List Pair) (k start n : ℕ) (points_left deltas_left : List Pair) (named : List ℕ) → k < length lengths → n ≡ get_or lengths k 0 → AreSetsTo lengths points deltas k start points_left deltas_left named → IsNext n (drop (k + 1) lengths) points_left deltas_left
sets_next lengths points deltas k start n points_left deltas_left named inside is sets =
    next_contour n (drop (k + 1) lengths) points_left deltas_left
    (subst (λ m. IsOutline (m ∷ drop (k + 1) lengths) points_left deltas_left) (sym is)
    (subst (λ (ls : List ℕ). IsOutline ls points_left deltas_left) (drop_more lengths k 0 inside) sets.sound))

-- one contour more
pub sets_push : (lengths : List ℕ) (points deltas : List Pair) (k start n : ℕ) (points_left deltas_left : List Pair) (named set : List ℕ) → k < length lengths → n ≡ get_or lengths k 0 → AreSetsTo lengths points deltas k start points_left deltas_left named → IsLeastSet (take n points_left) (take n deltas_left) set → AreSetsTo lengths points deltas (k + 1) (start + n) (drop n points_left) (drop n deltas_left) (named ++ map (λ point. start + point) set)
sets_push lengths points deltas k start n points_left deltas_left named set inside is sets least =
    let next = sets_next lengths points deltas k start n points_left deltas_left named inside is sets in
    let fits : n ≤ length points_left = next.inside in
    let index = sets.index in
    record {
      completes = λ more rest.
          let own : AreLeastSets start (n ∷ drop (k + 1) lengths) points_left deltas_left (map (λ point. start + point) set ++ more) = (set, more, least, refl, rest) in
          let here = subst (λ m. AreLeastSets start (m ∷ drop (k + 1) lengths) points_left deltas_left (map (λ point. start + point) set ++ more)) is own in
          let onward = subst (λ (ls : List ℕ). AreLeastSets start ls points_left deltas_left (map (λ point. start + point) set ++ more)) (sym (drop_more lengths k 0 inside)) here in
          rw append_assoc (sets.completes (map (λ point. start + point) set ++ more) onward);
      sound = next.rest;
      index = omega (arith, length-drop n points_left);
      few = sets.few;
    }

-- the sets of all contours
pub sets_end : (lengths : List ℕ) (points deltas : List Pair) (k start : ℕ) (points_left deltas_left : List Pair) (named : List ℕ) → length lengths ≤ k → AreSetsTo lengths points deltas k start points_left deltas_left named → AreLeastSets 0 lengths points deltas named
sets_end lengths points deltas k start points_left deltas_left named ended sets =
    let none : AreLeastSets start (drop k lengths) points_left deltas_left [] = subst (λ (ls : List ℕ). AreLeastSets start ls points_left deltas_left []) (sym (drop_all k lengths ended)) refl in
    subst (λ (xs : List ℕ). AreLeastSets 0 lengths points deltas xs) (append-nil named) (sets.completes [] none)

-- the points of a set are below the number of points
rises_below_all : (low n : ℕ) (set : List ℕ) → RisesFrom low n set → All (λ point. point < n) set
rises_below_all low n [] rises = All-nil (λ (point : ℕ). point < n)
rises_below_all low n (x ∷ xs) rises = All-cons (λ (point : ℕ). point < n) x xs rises.1 (rises_below_all (x + 1) n xs rises.2)

pub set_below : (n : ℕ) (points deltas : List Pair) (set : List ℕ) → n ≤ 1024 → IsLeastSet (take n points) deltas set → All (λ point. point < 1024) set
set_below n points deltas set short least =
    All-weaker (λ (point : ℕ). point < length (take n points)) (λ (point : ℕ). point < 1024)
    (λ point below. omega (arith, length-take n points))
    set
    (rises_below_all 0 (length (take n points)) set least.is_set)
