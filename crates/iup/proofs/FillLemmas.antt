-- A set infers the deltas exactly where they fill the contour from it.
use Rattle.std.proofs.Common.{◌≡◌, ℕ, ◌+◌, ◌-◌, ◌*◌, ◌/◌, ◌%◌, ◌<◌, ◌≤◌, ◌⊎◌, List, [], ◌∷◌, length, inl, inr, refl, sym, ◌∙◌, ap, subst, ⊎_elim, arith}
use Rattle.std.proofs.Math.Nat.{add-mod_right, mod-eq_of_lt, mod-add-div, add-mul-mod_self_left}
use Rattle.std.proofs.lemmas.Bool.{cases_lt}
use Rattle.std.proofs.lemmas.List.Elements.{All-from_get_or}
use Rattle.fixpoint.specs.declared.plane.Pair.{Pair}
use Rattle.variation_rules.specs.InferredDelta.{Inferred, AreNearest, FillsContour, still}
use Rattle.variation_rules.proofs.DrawingLemmas.{around_within}
use Rattle.iup.specs.Arcs.{Spans, Links, Infers, RisesFrom, given_by}
use Rattle.iup.specs.Laws.{InfersAsFilled}
use Rattle.iup.proofs.ArcLemmas.{inferred_same}
use Rattle.iup.proofs.SetLemmas.{IsIn, in_bounds, in_from_given, given_some, given_out, out_from_given, given_value}

-- the member after one, or the end of the round where it is the last
record NextAfter (points deltas : List Pair) (set : List ℕ) (end u : ℕ) : Type 0 where
  to : ℕ
  after : u < to
  at_most : to ≤ end
  is : IsIn to set ⊎ (to ≡ end)
  none : (y : ℕ) → IsIn y set → u < y → to ≤ y
  spans : Spans points deltas u to

next_of_first : (points deltas : List Pair) (n from x : ℕ) (xs : List ℕ) (end : ℕ) → RisesFrom (from + 1) n (x ∷ xs) → n ≤ end → Links points deltas from (x ∷ xs) end → NextAfter points deltas (from ∷ x ∷ xs) end from
next_of_first points deltas n from x xs end rises whole links =
    let above : from + 1 ≤ x = rises.0 in
    let below : x < n = rises.1 in
    record {
      to = x;
      after = omega arith;
      at_most = omega arith;
      is = inl (inr (inl refl));
      none = λ y there higher. ⊎_elim
          (λ (own : from ≡ y). absurd (omega arith))
          (λ (later : IsIn y (x ∷ xs)). ⊎_elim
          (λ (here : x ≡ y). omega arith)
          (λ (far : IsIn y xs). omega (arith, (in_bounds (x + 1) n xs y rises.2 far).0))
          later)
          there;
      spans = links.0;
    }

next_after : (points deltas : List Pair) (n from : ℕ) (xs : List ℕ) (end : ℕ) → RisesFrom (from + 1) n xs → from < end → n ≤ end → Links points deltas from xs end → (u : ℕ) → IsIn u (from ∷ xs) → NextAfter points deltas (from ∷ xs) end u
next_after points deltas n from [] end rises ahead whole links u there =
    ⊎_elim
    (λ (here : from ≡ u).
    subst (λ w. NextAfter points deltas (from ∷ []) end w) here (record {
      to = end;
      after = ahead;
      at_most = omega arith;
      is = inr refl;
      none = λ y member higher. ⊎_elim (λ (own : from ≡ y). absurd (omega arith)) (λ (absent : ⊥). absurd absent) member;
      spans = links;
    }))
    (λ (absent : ⊥). absurd absent)
    there
next_after points deltas n from (x ∷ xs) end rises ahead whole links u there =
    ⊎_elim
    (λ (here : from ≡ u). subst (λ w. NextAfter points deltas (from ∷ x ∷ xs) end w) here (next_of_first points deltas n from x xs end rises whole links))
    (λ (later : IsIn u (x ∷ xs)).
    let above : from + 1 ≤ x = rises.0 in
    let below : x < n = rises.1 in
    let next = next_after points deltas n x xs end rises.2 (omega arith) whole links.1 u later in
    let beyond = (in_bounds (from + 1) n (x ∷ xs) u rises later).0 in
    record {
      to = next.to;
      after = next.after;
      at_most = next.at_most;
      is = ⊎_elim (λ (member : IsIn next.to (x ∷ xs)). inl (inr member)) (λ (last : next.to ≡ end). inr last) next.is;
      none = λ y member higher. ⊎_elim (λ (own : from ≡ y). absurd (omega arith)) (λ (other : IsIn y (x ∷ xs)). next.none y other higher) member;
      spans = next.spans;
    })
    there

-- some rounds back
rounds_back : (n t x : ℕ) → n * t ≤ x → (x - n * t) % n ≡ x % n
rounds_back n t x some =
    let whole : x - n * t + n * t ≡ x = omega arith in
    sym (add-mul-mod_self_left (x - n * t) n t) ∙ ap (λ y. y % n) whole

-- a place beside the end of a round that is not past it, on the cycle
module _ (points deltas : List Pair) (a : ℕ) (xs : List ℕ) (some : 0 < length points) (size : length deltas ≡ length points) (rises : RisesFrom 0 (length points) (a ∷ xs)) where
  -- members found on the cycle are members of the round
  member_at : (place : ℕ) → place < length points → IsIn (place % length points) (a ∷ xs) → IsIn place (a ∷ xs)
  member_at place below there = subst (λ x. IsIn x (a ∷ xs)) (mod-eq_of_lt below) there

  member_on : (place : ℕ) → IsIn place (a ∷ xs) → IsIn (place % length points) (a ∷ xs)
  member_on place there =
      let inside : place < length points = (in_bounds 0 (length points) (a ∷ xs) place rises there).1 in
      subst (λ x. IsIn x (a ∷ xs)) (sym (mod-eq_of_lt inside)) there

  not_before : (y : ℕ) → IsIn y (a ∷ xs) → a ≤ y
  not_before y there =
      ⊎_elim
      (λ (own : a ≡ y). omega arith)
      (λ (later : IsIn y xs). omega (arith, (in_bounds (a + 1) (length points) xs y rises.2 later).0))
      there

  next_on : (place : ℕ) → IsIn place (a ∷ xs) ⊎ (place ≡ a + length points) → IsIn (place % length points) (a ∷ xs)
  next_on place is =
      let below : a < length points = rises.1 in
      ⊎_elim
      (λ (member : IsIn place (a ∷ xs)). member_on place member)
      (λ (end : place ≡ a + length points).
      let first : a ≡ place % length points = sym (ap (λ x. x % length points) end ∙ (add-mod_right a (length points) ∙ mod-eq_of_lt below)) in
      inl first)
      is

  -- between a member and the next one there is none, round the end of the set too
  none_before : (u w : ℕ) (next : NextAfter points deltas (a ∷ xs) (a + length points) u) → u < w → w < next.to → IsIn (w % length points) (a ∷ xs) → ⊥
  none_before u w next low high there =
      let at_most = next.at_most in
      let first_below : a < length points = rises.1 in
      ⊎_elim
      (λ (below : w < length points). let not_less = next.none w (member_at w below there) low in omega arith)
      (λ (above : length points ≤ w).
      let back : w - length points + length points ≡ w = omega arith in
      let round : w % length points ≡ (w - length points) % length points = ap (λ x. x % length points) (sym back) ∙ add-mod_right (w - length points) (length points) in
      let member = member_at (w - length points) (omega arith) (subst (λ x. IsIn x (a ∷ xs)) round there) in
      let not_less = not_before (w - length points) member in
      omega arith)
      (cases_lt w (length points))

  -- nearest places of the members are a member and the next one, some rounds on
  nearest_is_next : (u q v : ℕ) (near : AreNearest (length points) (given_by (a ∷ xs) deltas) u q v) (next : NextAfter points deltas (a ∷ xs) (a + length points) (u % length points)) → next.to ≡ v - length points * (u / length points)
  nearest_is_next u q v near next =
      let n = length points in
      let t = u / n in
      let parts : u % n + n * t ≡ u = mod-add-div u n in
      let before = near.before in
      let after = near.after in
      let beyond = next.after in
      let end : (v - n * t) % n ≡ v % n = rounds_back n t v (omega arith) in
      ⊎_elim
      (λ (less : next.to < v - n * t).
      let none = near.none_between (next.to + n * t) (omega arith) (omega arith) in
      let on : (next.to + n * t) % n ≡ next.to % n = add-mul-mod_self_left next.to n t in
      absurd (out_from_given (a ∷ xs) deltas ((next.to + n * t) % n) none (subst (λ x. IsIn x (a ∷ xs)) (sym on) (next_on next.to next.is))))
      (λ (not_less : v - n * t ≤ next.to). ⊎_elim
      (λ (more : v - n * t < next.to).
      absurd (none_before (u % n) (v - n * t) next (omega arith) more
      (subst (λ x. IsIn x (a ∷ xs)) (sym end) (in_from_given (a ∷ xs) deltas (v % n) near.second))))
      (λ (not_more : next.to ≤ v - n * t). omega arith)
      (cases_lt (v - n * t) next.to))
      (cases_lt next.to (v - n * t))

  inferred_from_links : Links points deltas a xs (a + length points) → (u q v : ℕ) → AreNearest (length points) (given_by (a ∷ xs) deltas) u q v → Inferred points deltas u q v
  inferred_from_links links u q v near =
      let n = length points in
      let t = u / n in
      let parts : u % n + n * t ≡ u = mod-add-div u n in
      let before = near.before in
      let after = near.after in
      let first_below : a < n = rises.1 in
      let next = next_after points deltas n a xs (a + n) rises.2 (omega arith) (omega arith) links (u % n) (in_from_given (a ∷ xs) deltas (u % n) near.first) in
      let same = nearest_is_next u q v near next in
      inferred_same points deltas (u % n) (q - n * t) next.to u q v size
      (ap (λ x. x % n) (omega arith) ∙ rounds_back n t u (omega arith))
      (rounds_back n t q (omega arith))
      (ap (λ x. x % n) same ∙ rounds_back n t v (omega arith))
      (next.spans (q - n * t) (omega arith) (omega arith))

  -- the other way: what fills the contour is linked
  links_from_filling : FillsContour points (given_by (a ∷ xs) deltas) deltas → (from : ℕ) (rest : List ℕ) → IsIn from (a ∷ xs) → RisesFrom (from + 1) (length points) rest → ((y : ℕ) → IsIn y rest → IsIn y (a ∷ xs)) → ((y : ℕ) → IsIn y (a ∷ xs) → (y ≤ from) ⊎ IsIn y rest) → Links points deltas from rest (a + length points)
  links_from_filling fills from [] member after all cover =
      let n = length points in
      let below : from < n = (in_bounds 0 n (a ∷ xs) from rises member).1 in
      let first_below : a < n = rises.1 in
      let end : (a + n) % n ≡ a = add-mod_right a n ∙ mod-eq_of_lt first_below in
      λ q low high. fills.inferred from q (a + n) some (record {
        before = low;
        after = high;
        first = given_some (a ∷ xs) deltas (from % n) (member_on from member);
        second = given_some (a ∷ xs) deltas ((a + n) % n) (inl (sym end));
        none_between = λ z above less. given_out (a ∷ xs) deltas (z % n) (λ there. ⊎_elim
            (λ (near : z < n). ⊎_elim
            (λ (not_more : z ≤ from). omega arith)
            (λ (absent : ⊥). absent)
            (cover z (member_at z near there)))
            (λ (far : n ≤ z).
            let back : z - n + n ≡ z = omega arith in
            let round : z % n ≡ (z - n) % n = ap (λ x. x % n) (sym back) ∙ add-mod_right (z - n) n in
            let not_less = not_before (z - n) (member_at (z - n) (omega arith) (subst (λ x. IsIn x (a ∷ xs)) round there)) in
            omega arith)
            (cases_lt z n));
      })
  links_from_filling fills from (x ∷ rest) member after all cover =
      let n = length points in
      let above : from + 1 ≤ x = after.0 in
      let next_below : x < n = after.1 in (
        λ q low high. fills.inferred from q x some (record {
          before = low;
          after = high;
          first = given_some (a ∷ xs) deltas (from % n) (member_on from member);
          second = given_some (a ∷ xs) deltas (x % n) (member_on x (all x (inl refl)));
          none_between = λ z higher less. given_out (a ∷ xs) deltas (z % n) (λ there. ⊎_elim
              (λ (not_more : z ≤ from). omega arith)
              (λ (later : IsIn z (x ∷ rest)). ⊎_elim
              (λ (here : x ≡ z). omega arith)
              (λ (far : IsIn z rest). omega (arith, (in_bounds (x + 1) n rest z after.2 far).0))
              later)
              (cover z (member_at z (omega arith) there)));
        }),
        links_from_filling fills x rest (all x (inl refl)) after.2 (λ y there. all y (inr there))
            (λ y there. ⊎_elim
            (λ (not_more : y ≤ from). inl (omega arith))
            (λ (later : IsIn y (x ∷ rest)). ⊎_elim
            (λ (here : x ≡ y). inl (omega arith))
            (λ (far : IsIn y rest). inr far)
            later)
            (cover y there)),
      )

-- the set's deltas fill the contour
fills_from_links : (points deltas : List Pair) (set : List ℕ) → 0 < length points → length deltas ≡ length points → RisesFrom 0 (length points) set → Infers points deltas set → FillsContour points (given_by set deltas) deltas
fills_from_links points deltas [] some size rises still_all = record {
  one_each = size;
  named = λ i delta inside is. absurd cc;
  unmoved = λ none i inside. around_within deltas i (omega arith) ∙ still_all i still (omega arith);
  inferred = λ u q v some near. let none = near.first in absurd cc;
}
fills_from_links points deltas (a ∷ xs) some size rises links =
    let below : a < length points = rises.1 in
    record {
      one_each = size;
      named = λ i delta inside is. around_within deltas i (omega arith) ∙ given_value (a ∷ xs) deltas i delta is;
      unmoved = λ none i inside. absurd (out_from_given (a ∷ xs) deltas a (none a below) (inl refl));
      inferred = λ u q v also near. inferred_from_links points deltas a xs some size rises links u q v near;
    }

infers_from_fills : (points deltas : List Pair) (set : List ℕ) → 0 < length points → length deltas ≡ length points → RisesFrom 0 (length points) set → FillsContour points (given_by set deltas) deltas → Infers points deltas set
infers_from_fills points deltas [] some size rises fills =
    All-from_get_or (λ delta. delta ≡ still) deltas still
    (λ i inside. sym (around_within deltas i inside) ∙ fills.unmoved (λ k _. refl) i (omega arith))
infers_from_fills points deltas (a ∷ xs) some size rises fills =
    links_from_filling points deltas a xs some size rises fills a xs (inl refl) rises.2 (λ y there. inr there)
    (λ y there. ⊎_elim (λ (own : a ≡ y). inl (omega arith)) (λ (later : IsIn y xs). inr later) there)

pub infers_as_filled : InfersAsFilled
infers_as_filled points deltas set some size rises = (
  fills_from_links points deltas set some size rises,
  infers_from_fills points deltas set some size rises,
)
