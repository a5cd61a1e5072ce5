-- Sets of one point, and of two.
use Rattle.std.proofs.Common.{◌≡◌, ℕ, ℤ, pos, zero, suc, ◌+◌, ◌%◌, ◌<◌, ◌≤◌, ◌⊎◌, ◌-ℤ◌, ◌*ℤ◌, ◌+ℤ◌, ◌<ℤ◌, ◌≤ℤ◌, All, List, [], ◌∷◌, length, get_or, inl, inr, refl, sym, ◌∙◌, ap, subst, ⊎_elim, arith}
use Rattle.std.proofs.Math.IntN.{*ℤ-zero}
use Rattle.std.proofs.Math.Nat.{add-mod_right}
use Rattle.std.proofs.lemmas.Bool.{cases_lt, cases_eq}
use Rattle.std.proofs.lemmas.Int.{ints, by_lt_z}
use Rattle.fixpoint.specs.declared.plane.Pair.{Pair}
use Rattle.variation_rules.specs.InferredDelta.{Between, OnLine, around, still}
use Rattle.variation_rules.proofs.InferredLemmas.{between_turned, between_agree, between_below, between_above, between_inside}
use Rattle.iup.specs.Arcs.{Spans, RisesFrom, Infers, IsFirstOf, IsLeastSet}
use Rattle.iup.specs.Bounds.{Path, Reaches}
use Rattle.iup_optimal.specs.Pairs.{IsPair, IsNearestPair, IsFirstPair}
use Rattle.iup_optimal.specs.Ways.{IsFewest}

-- where the references move alike, what moves so too is inferred
level_line : (c1 c2 c d : ℤ) → OnLine c1 d c2 d c d
level_line c1 c2 c d =
    let none : d -ℤ d ≡ pos 0 = omega (arith, ints) in
    rw none (rw (*ℤ-zero (c -ℤ c1)) (plus_zero (d *ℤ (c2 -ℤ c1))))
  where
    plus_zero : (z : ℤ) → z ≡ z +ℤ pos 0
    plus_zero z = omega (arith, ints)

level_rising : (c1 c2 c d : ℤ) → c1 <ℤ c2 → Between c1 d c2 d c d
level_rising c1 c2 c d ahead =
    by_lt_z c1 c
    (λ (after : c1 <ℤ c). by_lt_z c c2
    (λ (before : c <ℤ c2). between_inside c1 d c2 d c d after before (level_line c1 c2 c d))
    (λ (not_before : c2 ≤ℤ c). between_above c1 d c2 d c ahead not_before))
    (λ (not_after : c ≤ℤ c1). between_below c1 d c2 d c ahead not_after)

between_level : (c1 c2 c d : ℤ) → Between c1 d c2 d c d
between_level c1 c2 c d =
    by_lt_z c1 c2
    (λ (rising : c1 <ℤ c2). level_rising c1 c2 c d rising)
    (λ (not_rising : c2 ≤ℤ c1). by_lt_z c2 c1
    (λ (falling : c2 <ℤ c1). between_turned c1 d c2 d c d (level_rising c2 c1 c d falling))
    (λ (not_falling : c1 ≤ℤ c2). between_agree c1 d c2 d c (omega (arith, ints)) refl))

-- Where one point spans the whole round, all deltas are its own, and so the first point spans the round.
module _ (points deltas : List Pair) (w : ℕ) (same : length deltas ≡ length points) (below : w < length points) (spans : Spans points deltas w (w + length points)) where
  round_of : (pairs : List Pair) → length pairs ≡ length points → (q : ℕ) → around pairs (q + length points) ≡ around pairs q
  round_of pairs size q =
      let level : (q + length points) % length pairs ≡ q % length pairs = subst (λ n. (q + n) % length pairs ≡ q % length pairs) size (add-mod_right q (length pairs)) in
      ap (λ k. get_or pairs k still) level

  inside_level : (q : ℕ) → w < q → q < w + length points → ((around deltas q).x ≡ (around deltas w).x) × ((around deltas q).y ≡ (around deltas w).y)
  inside_level q low high =
      let place = round_of points refl w in
      let delta = round_of deltas same w in
      let inferred = spans q low high in (
        inferred.x.agree (ap (λ (p : Pair). p.x) (sym place)) (ap (λ (p : Pair). p.x) (sym delta)),
        inferred.y.agree (ap (λ (p : Pair). p.y) (sym place)) (ap (λ (p : Pair). p.y) (sym delta)),
      )

  level : (q : ℕ) → q ≤ length points → ((around deltas q).x ≡ (around deltas w).x) × ((around deltas q).y ≡ (around deltas w).y)
  level q inside =
      ⊎_elim
      (λ (before : q < w).
      let later = inside_level (q + length points) (omega arith) (omega arith) in
      let delta = round_of deltas same q in (
        ap (λ (p : Pair). p.x) (sym delta) ∙ later.0,
        ap (λ (p : Pair). p.y) (sym delta) ∙ later.1,
      ))
      (λ (not_before : w ≤ q). ⊎_elim
      (λ (within : q < w + length points). ⊎_elim
      (λ (here : w ≡ q). (ap (λ k. (around deltas k).x) (sym here), ap (λ k. (around deltas k).y) (sym here)))
      (λ (apart : w ≡ q → ⊥). inside_level q (omega arith) within)
      (cases_eq w q))
      (λ (beyond : w + length points ≤ q).
      let end : q ≡ w + length points = omega arith in
      let delta = ap (λ k. around deltas k) end ∙ round_of deltas same w in
      (ap (λ (p : Pair). p.x) delta, ap (λ (p : Pair). p.y) delta))
      (cases_lt q (w + length points)))
      (cases_lt q w)

  pub spans_from_first : Spans points deltas 0 (0 + length points)
  spans_from_first q low high =
      let here = level q (omega arith) in
      let first = level 0 (omega arith) in
      let last = level (0 + length points) (omega arith) in
      record {
        x = rw (here.0, first.0, last.0) (between_level (around points 0).x (around points (0 + length points)).x (around points q).x (around deltas w).x);
        y = rw (here.1, first.1, last.1) (between_level (around points 0).y (around points (0 + length points)).y (around points q).y (around deltas w).y);
      }

-- no point spans the round where the first doesn't
pub none_alone : (points deltas : List Pair) (w : ℕ) → length deltas ≡ length points → w < length points → (Reaches points deltas 0 (0 + length points) → ⊥) → Spans points deltas w (w + length points) → ⊥
none_alone points deltas w same below none spans =
    none (record { ahead = omega arith; within = omega arith; spans = spans_from_first points deltas w same below spans })

-- the set of the first point
pub least_one : (points deltas : List Pair) → (All (λ delta. delta ≡ still) deltas → ⊥) → 0 < length points → Spans points deltas 0 (0 + length points) → IsLeastSet points deltas (0 ∷ [])
least_one points deltas moves some spans = record {
  is_set = (omega arith, some, tt);
  infers = spans;
  fewest = λ other set infers. fewest_of other infers;
  first = λ other set infers equal. first_of other equal;
}
  where
    fewest_of : (other : List ℕ) → Infers points deltas other → 1 ≤ length other
    fewest_of [] infers = absurd (moves infers)
    fewest_of (x ∷ xs) infers = omega arith

    first_of : (other : List ℕ) → length other ≡ 1 → IsFirstOf (0 ∷ []) other
    first_of [] equal = absurd (omega arith)
    first_of (zero ∷ xs) equal = inr (refl, tt)
    first_of (suc x ∷ xs) equal = inl (omega arith)

pub fewest_one : (points deltas : List Pair) → 0 < length points → Spans points deltas 0 (0 + length points) → IsFewest (Reaches points deltas) (length points) 1
fewest_one points deltas some spans = record {
  reached = (0, some, (0 + length points, record { ahead = omega arith; within = omega arith; spans = spans }, refl));
  least = λ x k below path. at_least k x below path;
}
  where
    at_least : (k x : ℕ) → x < length points → Path (Reaches points deltas) x (x + length points) k → 1 ≤ k
    at_least zero x below path = absurd (omega (arith, path))
    at_least (suc k) x below path = omega arith

-- the first set of two points, where no set of one does
pub least_two : (points deltas : List Pair) (w v : ℕ) → length deltas ≡ length points → (All (λ delta. delta ≡ still) deltas → ⊥) → (Reaches points deltas 0 (0 + length points) → ⊥) → IsFirstPair (Reaches points deltas) (length points) w v → IsLeastSet points deltas (w ∷ v ∷ [])
least_two points deltas w v same moves none found =
    let order = found.pair.order in
    let inside = found.pair.inside in
    record {
      is_set = (omega arith, omega arith, (omega arith, inside, tt));
      infers = (found.pair.first.spans, found.pair.second.spans);
      fewest = λ other set infers. fewest_of other set infers;
      first = λ other set infers equal. first_of other set infers equal;
    }
  where
    fewest_of : (other : List ℕ) → RisesFrom 0 (length points) other → Infers points deltas other → 2 ≤ length other
    fewest_of [] set infers = absurd (moves infers)
    fewest_of (x ∷ []) set infers = absurd (none_alone points deltas x same set.1 none infers)
    fewest_of (x ∷ y ∷ ys) set infers = omega arith

    first_of : (other : List ℕ) → RisesFrom 0 (length points) other → Infers points deltas other → length other ≡ 2 → IsFirstOf (w ∷ v ∷ []) other
    first_of [] set infers equal = absurd (omega arith)
    first_of (x ∷ []) set infers equal = absurd (omega arith)
    first_of (x ∷ y ∷ []) set infers equal =
        let above : x + 1 ≤ y = set.2.0 in
        let below : y < length points = set.2.1 in
        let pair : IsPair (Reaches points deltas) (length points) x y = record {
          order = omega arith;
          inside = below;
          first = record { ahead = omega arith; within = omega arith; spans = infers.0 };
          second = record { ahead = omega arith; within = omega arith; spans = infers.1 };
        } in
        ⊎_elim
        (λ (earlier : w < x). inl earlier)
        (λ (level : (w ≡ x) × (v ≤ y)). inr (
          level.0,
          ⊎_elim
              (λ (nearer : v < y). inl nearer)
              (λ (not_nearer : y ≤ v). inr (omega (arith, level.1), tt))
              (cases_lt v y),
        ))
        (found.first x y pair)
    first_of (x ∷ y ∷ z ∷ zs) set infers equal = absurd (omega arith)

pub fewest_two : (points deltas : List Pair) (w v : ℕ) → length deltas ≡ length points → (Reaches points deltas 0 (0 + length points) → ⊥) → IsPair (Reaches points deltas) (length points) w v → IsFewest (Reaches points deltas) (length points) 2
fewest_two points deltas w v same none pair =
    let order = pair.order in
    let inside = pair.inside in
    record {
      reached = (w, omega arith, (v, pair.first, (w + length points, pair.second, refl)));
      least = λ x k below path. at_least k x below path;
    }
  where
    at_least : (k x : ℕ) → x < length points → Path (Reaches points deltas) x (x + length points) k → 2 ≤ k
    at_least zero x below path = absurd (omega (arith, path))
    at_least (suc zero) x below path = absurd (none_alone points deltas x same below none (subst (λ (z : ℕ). Spans points deltas x z) path.2 path.1.spans))
    at_least (suc (suc k)) x below path = omega arith

-- the nearest pair of the first place is the first of all
pub first_from_nearest : (E : ℕ → ℕ → Type 0) (n v : ℕ) → IsNearestPair E n 0 v → IsFirstPair E n 0 v
first_from_nearest E n v found = record {
  pair = found.pair;
  first = λ x y pair. first_of x y pair;
}
  where
    first_of : (x y : ℕ) → IsPair E n x y → (0 < x) ⊎ ((0 ≡ x) × (v ≤ y))
    first_of zero y pair = inr (refl, found.nearest y pair)
    first_of (suc x) y pair = inl (omega arith)
