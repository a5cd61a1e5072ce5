-- The delta of one point: whatever nearest neighbours the cycle has around it, they are those that a search finds.
use Rattle.std.proofs.Common.{◌≡◌, ℕ, zero, suc, ◌+◌, ◌-◌, ◌*◌, ◌%◌, ◌<◌, ◌≤◌, List, [], ◌∷◌, ◌++◌, length, take, drop, get_or, sum, Option, Some, None, IsSome, IfSome, All, MatchOption, refl, sym, ◌∙◌, ap, subst, ⊎_elim, arith}
use Rattle.std.proofs.Math.Nat.{add-mod_right, mod-add-mod, mod-eq_of_lt}
use Rattle.std.proofs.lemmas.Bool.{cases_lt, cases_eq}
use Rattle.std.proofs.lemmas.List.Elements.{All-head, All-tail}
use Rattle.std.proofs.lemmas.List.{length-take, length-drop, get_or-take, get_or-drop, get_or_append_left, get_or_push, take_all, drop_all, drop-drop, take-append-le, drop-append-le}
use Rattle.std.proofs.lemmas.List.Sums.{sum_by-cons}
use Rattle.std.specs.Option.{unwrap_or}
use Rattle.fixpoint.specs.declared.plane.Pair.{Pair}
use Rattle.variation_rules.specs.InferredDelta.{still, around, AreNearest, FillsContour}
use Rattle.variation_rules.specs.DrawnOutline.{named_delta, FillsContours, Fills}
use Rattle.variation_rules.specs.PointDelta.{IsInferred, given_at, IsDeltaAt, IsBefore, IsAfter}
use Rattle.variation_rules.proofs.DrawingLemmas.{around_within, named_first, named_later}
use Rattle.variation_rules.specs.declared.filling.Moved.{Moved}
use Rattle.variation_rules.specs.declared.filling.Neighbour.{Neighbour}
use Rattle.variation_rules.specs.declared.tuple.TupleVariation.{TupleVariation}

-- places at one distance before, or after, places that are one on the cycle are one on the cycle
same_before : (u w q r k n : ℕ) → u + k ≡ q → w + k ≡ r → k ≤ n → q % n ≡ r % n → u % n ≡ w % n
same_before u w q r k n first second near same =
    let round : u + n ≡ q + (n - k) = omega arith in
    let back : r + (n - k) ≡ w + n = omega arith in
    sym (add-mod_right u n) ∙ (ap (λ x. x % n) round ∙ (sym (mod-add-mod q n (n - k)) ∙ (ap (λ x. (x + (n - k)) % n) same ∙ (mod-add-mod r n (n - k) ∙ (ap (λ x. x % n) back ∙ add-mod_right w n)))))

same_after : (q r k n : ℕ) → q % n ≡ r % n → (q + k) % n ≡ (r + k) % n
same_after q r k n same = sym (mod-add-mod q n k) ∙ (ap (λ x. (x + k) % n) same ∙ mod-add-mod r n k)

-- one round on
round_on : (i n : ℕ) → i < n → (i + n) % n ≡ i
round_on i n inside = add-mod_right i n ∙ mod-eq_of_lt inside

round_twice : (i n : ℕ) → i < n → (i + 2 * n) % n ≡ i
round_twice i n inside =
    let twice : i + 2 * n ≡ i + n + n = omega arith in
    ap (λ x. x % n) twice ∙ (add-mod_right (i + n) n ∙ round_on i n inside)

-- nothing is given where something is
no_none : {X : Type 0} (x : Option X) → IsSome x → x ≡ None → ⊥
no_none None some none = cc
no_none (Some x) some none = cc

pub some_is_some : {X : Type 0} (x : Option X) (y : X) → x ≡ Some y → IsSome x
some_is_some x y same = subst IsSome (sym same) refl

-- the nearest place before q is, on the cycle, the one found before a place that is q on the cycle
before_is_one : (n : ℕ) (given : ℕ → Option Pair) (u q v w r : ℕ) → AreNearest n given u q v → w < r → r ≤ w + n → IsSome (given (w % n)) → ((x : ℕ) → w < x → x < r → given (x % n) ≡ None) → q % n ≡ r % n → u % n ≡ w % n
before_is_one n given u q v w r near before within some none same =
    let k = q - u in
    let m = r - w in
    let u_is : u + k ≡ q = omega (arith, near.before) in
    let w_is : w + m ≡ r = omega arith in
    ⊎_elim
    (λ (less : k < m).
    let x_is : w + (m - k) + k ≡ r = omega arith in
    let on = same_before u (w + (m - k)) q r k n u_is x_is (omega arith) same in
    absurd (no_none (given (u % n)) near.first (ap given on ∙ none (w + (m - k)) (omega arith) (omega (arith, near.before)))))
    (λ (not_less : m ≤ k). ⊎_elim
    (λ (more : m < k).
    let x_is : u + (k - m) + m ≡ q = omega arith in
    let on = same_before w (u + (k - m)) r q m n w_is x_is (omega arith) (sym same) in
    absurd (no_none (given (w % n)) some (ap given on ∙ near.none_between (u + (k - m)) (omega arith) (omega (arith, near.after)))))
    (λ (not_more : k ≤ m).
    let level : w + k ≡ r = omega arith in
    same_before u w q r k n u_is level (omega arith) same)
    (cases_lt m k))
    (cases_lt k m)

-- and the nearest after it the one found after
after_is_one : (n : ℕ) (given : ℕ → Option Pair) (u q v w r : ℕ) → AreNearest n given u q v → r < w → IsSome (given (w % n)) → ((x : ℕ) → r < x → x < w → given (x % n) ≡ None) → q % n ≡ r % n → v % n ≡ w % n
after_is_one n given u q v w r near after some none same =
    let k = v - q in
    let m = w - r in
    let v_is : q + k ≡ v = omega (arith, near.after) in
    let w_is : r + m ≡ w = omega arith in
    ⊎_elim
    (λ (less : k < m).
    let on : v % n ≡ (r + k) % n = ap (λ x. x % n) (sym v_is) ∙ same_after q r k n same in
    absurd (no_none (given (v % n)) near.second (ap given on ∙ none (r + k) (omega (arith, near.after)) (omega arith))))
    (λ (not_less : m ≤ k). ⊎_elim
    (λ (more : m < k).
    let on : w % n ≡ (q + m) % n = ap (λ x. x % n) (sym w_is) ∙ sym (same_after q r m n same) in
    absurd (no_none (given (w % n)) some (ap given on ∙ near.none_between (q + m) (omega (arith, near.before)) (omega arith))))
    (λ (not_more : k ≤ m).
    let level : r + k ≡ w = omega arith in
    ap (λ x. x % n) (sym v_is) ∙ (same_after q r k n same ∙ ap (λ x. x % n) level))
    (cases_lt m k))
    (cases_lt k m)

-- in a contour without a given delta nothing moves
pub delta_where_none : (points : List Pair) (given : ℕ → Option Pair) (i : ℕ) → i < length points → ((k : ℕ) → k < length points → given k ≡ None) → IsDeltaAt points given i still
delta_where_none points given i inside none = record {
  named = λ own is. let nothing = none i inside in absurd cc;
  unmoved = λ _. refl;
  inferred = λ u q v first second on near _ _.
      absurd (no_none (given (u % length points)) near.first (none (u % length points) (omega arith)));
}

-- where a search of the round before, or after, finds nothing, nothing is given
pub none_from_before : (given : ℕ → Option Pair) (n i : ℕ) → i < n → ((x : ℕ) → i ≤ x → x < i + n → given (x % n) ≡ None) → (k : ℕ) → k < n → given k ≡ None
none_from_before given n i inside none k below =
    ⊎_elim
    (λ (less : k < i). ap given (sym (round_on k n below)) ∙ none (k + n) (omega arith) (omega arith))
    (λ (not_less : i ≤ k). ap given (sym (mod-eq_of_lt below)) ∙ none k not_less (omega arith))
    (cases_lt k i)

pub none_from_after : (given : ℕ → Option Pair) (n i : ℕ) → i < n → ((x : ℕ) → i + n < x → x ≤ i + 2 * n → given (x % n) ≡ None) → (k : ℕ) → k < n → given k ≡ None
none_from_after given n i inside none k below =
    ⊎_elim
    (λ (more : i < k). ap given (sym (round_on k n below)) ∙ none (k + n) (omega arith) (omega arith))
    (λ (not_more : k ≤ i). ap given (sym (round_twice k n below)) ∙ none (k + 2 * n) (omega arith) (omega arith))
    (cases_lt i k)

-- the neighbours that the searches find are the nearest
pub neighbours_are_nearest : (given : List (Option Pair)) (i : ℕ) (first second : Neighbour) → i < length given → given_at given i ≡ None → IsBefore given i first → IsAfter given i second → AreNearest (length given) (given_at given) first.place (i + length given) second.place
neighbours_are_nearest given i first second inside nothing before after = record {
  before = before.before;
  after = after.after;
  first = some_is_some (given_at given (first.place % length given)) first.delta before.is_given;
  second = some_is_some (given_at given (second.place % length given)) second.delta after.is_given;
  none_between = λ x above below. ⊎_elim
      (λ (less : x < i + length given). before.none_between x above less)
      (λ (not_less : i + length given ≤ x). ⊎_elim
      (λ (more : i + length given < x). after.none_between x more below)
      (λ (not_more : x ≤ i + length given).
      let level : x ≡ i + length given = omega arith in
      ap (λ y. given_at given (y % length given)) level ∙ (ap (given_at given) (round_on i (length given) inside) ∙ nothing))
      (cases_lt (i + length given) x))
      (cases_lt x (i + length given));
}

-- the point that a neighbour is, with its delta
abbrev moved : List Pair → ℕ → Pair → Moved
moved points place delta = record { point = around points place; delta = delta }

-- of two places that are one on the cycle the same point is found, with the same delta
moved_is_one : (points : List Pair) (given : ℕ → Option Pair) (u w : ℕ) (d e : Pair) → u % length points ≡ w % length points → given (u % length points) ≡ Some d → given (w % length points) ≡ Some e → moved points u d ≡ moved points w e
moved_is_one points given u w d e on first second =
    let same : d ≡ e = let level = ap given on in cc in
    ap (λ k. record { point = get_or points k still; delta = d }) on ∙ ap (λ x. record { point = around points w; delta = x }) same

-- the delta that the found neighbours leave is that of any nearest ones
pub delta_from_neighbours : (points : List Pair) (given : List (Option Pair)) (i : ℕ) (first second : Neighbour) (delta : Pair) → length given ≡ length points → i < length points → given_at given i ≡ None → IsBefore given i first → IsAfter given i second → IsInferred (moved points first.place first.delta) (moved points second.place second.delta) (around points i) delta → IsDeltaAt points (given_at given) i delta
delta_from_neighbours points given i first second delta same inside nothing before after inferred =
    let n = length points in
    let first_given : given_at given (first.place % n) ≡ Some first.delta = rw (← same) before.is_given in
    let second_given : given_at given (second.place % n) ≡ Some second.delta = rw (← same) after.is_given in
    let none_before : (x : ℕ) → first.place < x → x < i + n → given_at given (x % n) ≡ None = rw (← same) before.none_between in
    let none_after : (x : ℕ) → i + n < x → x < second.place → given_at given (x % n) ≡ None = rw (← same) after.none_between in
    record {
      named = λ own is. absurd cc;
      unmoved = λ none. let missing = none (first.place % n) (omega arith) in absurd cc;
      inferred = λ u q v d e on near d_is e_is.
          let level : q % n ≡ (i + n) % n = on ∙ sym (round_on i n inside) in
          let left : u % n ≡ first.place % n = before_is_one n (given_at given) u q v first.place (i + n) near (omega (arith, before.before)) (omega (arith, before.near)) (some_is_some (given_at given (first.place % n)) first.delta first_given) none_before level in
          let right : v % n ≡ second.place % n = after_is_one n (given_at given) u q v second.place (i + n) near (omega (arith, after.after)) (some_is_some (given_at given (second.place % n)) second.delta second_given) none_after level in
          rw (moved_is_one points (given_at given) u first.place d first.delta left d_is first_given, moved_is_one points (given_at given) v second.place e second.delta right e_is second_given)
          inferred;
    }

-- and a delta of the point is one that they leave
pub inferred_from_delta : (points : List Pair) (given : List (Option Pair)) (i : ℕ) (first second : Neighbour) (delta : Pair) → length given ≡ length points → i < length points → given_at given i ≡ None → IsBefore given i first → IsAfter given i second → IsDeltaAt points (given_at given) i delta → IsInferred (moved points first.place first.delta) (moved points second.place second.delta) (around points i) delta
inferred_from_delta points given i first second delta same inside nothing before after is_delta =
    let near = neighbours_are_nearest given i first second (omega arith) nothing before after in
    is_delta.inferred first.place (i + length points) second.place first.delta second.delta (round_on i (length points) inside)
    (rw (← same) near) (rw (← same) before.is_given) (rw (← same) after.is_given)

-- the answer between the neighbours is the answer of the point
pub delta_answer : (points : List Pair) (given : List (Option Pair)) (i : ℕ) (first second : Neighbour) (answer : Option Pair) → length given ≡ length points → i < length points → given_at given i ≡ None → IsBefore given i first → IsAfter given i second → MatchOption answer ((delta : Pair) → IsInferred (moved points first.place first.delta) (moved points second.place second.delta) (around points i) delta → ⊥) (IsInferred (moved points first.place first.delta) (moved points second.place second.delta) (around points i)) → MatchOption answer ((delta : Pair) → IsDeltaAt points (given_at given) i delta → ⊥) (IsDeltaAt points (given_at given) i)
delta_answer points given i first second None same inside nothing before after none =
    λ delta is_delta. none delta (inferred_from_delta points given i first second delta same inside nothing before after is_delta)
delta_answer points given i first second (Some delta) same inside nothing before after inferred =
    delta_from_neighbours points given i first second delta same inside nothing before after inferred

-- the pair at a place of the cycle, by the place's remainder
around_is : (pairs : List Pair) (n k : ℕ) → length pairs ≡ n → around pairs k ≡ get_or pairs (k % n) still
around_is pairs n k same = ap (λ m. get_or pairs (k % m) still) same

-- what is given is some delta
given_is : (x : Option Pair) → IsSome x → (y : Pair) × (x ≡ Some y)
given_is None some = absurd cc
given_is (Some y) some = (y, refl)

-- deltas of a contour each of which is its point's fill the contour
pub contour_from_deltas : (points : List Pair) (given : ℕ → Option Pair) (deltas : List Pair) → length deltas ≡ length points → ((i : ℕ) → i < length points → IsDeltaAt points given i (get_or deltas i still)) → FillsContour points given deltas
contour_from_deltas points given deltas same all =
    let n = length points in
    let own : (k : ℕ) (x : Pair) → 0 < n → given (k % n) ≡ Some x → x ≡ around deltas k =
    λ k x some is. sym (around_is deltas n k same ∙ (all (k % n) (omega arith)).named x is) in
    record {
      one_each = same;
      named = λ i delta below is. around_within deltas i (omega arith) ∙ (all i below).named delta is;
      unmoved = λ none i below. around_within deltas i (omega arith) ∙ (all i below).unmoved none;
      inferred = λ u q v some near.
          let inside : q % n < n = omega arith in
          let first = given_is (given (u % n)) near.first in
          let second = given_is (given (v % n)) near.second in
          let inferred = (all (q % n) inside).inferred u q v first.0 second.0 refl near first.1 second.1 in
          let placed : IsInferred (moved points u (around deltas u)) (moved points v (around deltas v)) (around points q) (around deltas q) =
          rw (around_is deltas n q same, ← own u first.0 some first.1, ← own v second.0 some second.1, ← around_within points (q % n) inside) inferred in
          record { x = placed.x; y = placed.y };
    }

-- a filled contour has at a place of the cycle the delta that is given there
around_given : (points : List Pair) (given : ℕ → Option Pair) (deltas : List Pair) (k : ℕ) (delta : Pair) → FillsContour points given deltas → 0 < length points → given (k % length points) ≡ Some delta → around deltas k ≡ delta
around_given points given deltas k delta fills some is =
    let inside : k % length points < length points = omega arith in
    around_is deltas (length points) k fills.one_each
    ∙ (sym (around_within deltas (k % length points) (omega (arith, fills.one_each))) ∙ fills.named (k % length points) delta inside is)

-- and each of its deltas is its point's
pub delta_of_contour : (points : List Pair) (given : ℕ → Option Pair) (deltas : List Pair) (i : ℕ) → FillsContour points given deltas → i < length points → IsDeltaAt points given i (get_or deltas i still)
delta_of_contour points given deltas i fills inside =
    let n = length points in
    let here : around deltas i ≡ get_or deltas i still = around_within deltas i (omega (arith, fills.one_each)) in
    record {
      named = λ own is. sym here ∙ fills.named i own inside is;
      unmoved = λ none. sym here ∙ fills.unmoved none i inside;
      inferred = λ u q v d e on near d_is e_is.
          let some : 0 < n = omega arith in
          let placed = fills.inferred u q v some near in
          let full : IsInferred (moved points u (around deltas u)) (moved points v (around deltas v)) (around points q) (around deltas q) = record { x = placed.x; y = placed.y } in
          let place : around points q ≡ around points i = ap (λ k. get_or points k still) (on ∙ sym (mod-eq_of_lt inside)) in
          let delta : around deltas q ≡ get_or deltas i still = around_is deltas n q fills.one_each ∙ ap (λ k. get_or deltas k still) on in
          rw (← around_given points given deltas u d fills some d_is, ← around_given points given deltas v e fills some e_is, ← place, ← delta) full;
    }

-- what is given counts within the contour alone
pub contour_respects : (points : List Pair) (given other : ℕ → Option Pair) (deltas : List Pair) → ((k : ℕ) → k < length points → given k ≡ other k) → FillsContour points given deltas → FillsContour points other deltas
contour_respects points given other deltas same fills =
    record {
      one_each = fills.one_each;
      named = λ i delta below is. fills.named i delta below (same i below ∙ is);
      unmoved = λ none i below. fills.unmoved (λ k inside. same k inside ∙ none k inside) i below;
      inferred = λ u q v some near.
          fills.inferred u q v some
          (record {
            before = near.before;
            after = near.after;
            first = subst IsSome (sym (same (u % length points) (omega arith))) near.first;
            second = subst IsSome (sym (same (v % length points) (omega arith))) near.second;
            none_between = λ x above below. same (x % length points) (omega arith) ∙ near.none_between x above below;
          });
    }

pub contours_respect : (lengths : List ℕ) (points : List Pair) (given other : ℕ → Option Pair) (deltas : List Pair) → ((k : ℕ) → k < length points → given k ≡ other k) → FillsContours lengths points given deltas → FillsContours lengths points other deltas
contours_respect [] points given other deltas same fills = fills
contours_respect (n ∷ lengths) points given other deltas same fills = (
  contour_respects (take n points) given other (take n deltas)
      (λ k below. same k (omega (arith, length-take n points))) fills.0,
  contours_respect lengths (drop n points) (λ i. given (n + i)) (λ i. other (n + i)) (drop n deltas)
      (λ k below. same (n + k) (omega (arith, length-drop n points))) fills.1,
)

-- the part of a contour's deltas that comes first is all of them, and nothing is left
whole_contour : (n : ℕ) (points : List Pair) (given : ℕ → Option Pair) (new : List Pair) → FillsContour (take n points) given new → (take n new ≡ new) × (drop n new ≡ [])
whole_contour n points given new fills =
    let few : length new ≤ n = omega (arith, fills.one_each, length-take n points) in
    (take_all n new few, drop_all n new few)

-- one contour more: the deltas of the first contours, and those of the next after them
pub contours_push : (lengths : List ℕ) (start n : ℕ) (points : List Pair) (given : ℕ → Option Pair) (deltas new : List Pair) → sum lengths ≡ start → length deltas ≡ start → FillsContours lengths points given deltas → FillsContour (take n (drop start points)) (λ k. given (start + k)) new → FillsContours (lengths ++ n ∷ []) points given (deltas ++ new)
contours_push [] start n points given deltas new sum_is count fills next =
    let none : start ≡ 0 = sym sum_is in
    let first : FillsContour (take n points) (λ k. given (start + k)) new = subst (λ s. FillsContour (take n (drop s points)) (λ k. given (start + k)) new) none next in
    let plain : FillsContour (take n points) given new = contour_respects (take n points) (λ k. given (start + k)) given new (λ k _. ap given (omega arith)) first in
    let parts = whole_contour n points given new plain in
    rw fills (rw parts.0 plain, parts.1)
contours_push (m ∷ lengths) start n points given deltas new sum_is count fills next =
    let rest : m + sum lengths ≡ start = sym (sum_by-cons (λ k. k) m lengths) ∙ sum_is in
    let onward : FillsContour (take n (drop (sum lengths) (drop m points))) (λ k. given (start + k)) new = rw (drop-drop (sum lengths) m points, rest) next in
    let moved_on : FillsContour (take n (drop (sum lengths) (drop m points))) (λ k. given (m + (sum lengths + k))) new =
    contour_respects (take n (drop (sum lengths) (drop m points))) (λ k. given (start + k)) (λ k. given (m + (sum lengths + k))) new (λ k _. ap given (omega arith)) onward in (
      rw (take-append-le m deltas new (omega arith)) fills.0,
      rw (drop-append-le m deltas new (omega arith))
          (contours_push lengths (sum lengths) n (drop m points) (λ i. given (m + i)) (drop m deltas) new refl (omega (arith, length-drop m deltas)) fills.1 moved_on),
    )

-- filled contours have each contour filled
pub contour_of_contours : (lengths : List ℕ) (i start : ℕ) (points : List Pair) (given : ℕ → Option Pair) (deltas : List Pair) → i < length lengths → sum (take i lengths) ≡ start → FillsContours lengths points given deltas → (new : List Pair) × FillsContour (take (get_or lengths i 0) (drop start points)) (λ k. given (start + k)) new
contour_of_contours [] i start points given deltas inside sum_is fills = absurd (omega arith)
contour_of_contours (n ∷ lengths) zero start points given deltas inside sum_is fills =
    let none : 0 ≡ start = sum_is in (
      take n deltas,
      subst (λ s. FillsContour (take n (drop s points)) (λ k. given (start + k)) (take n deltas)) none
          (contour_respects (take n points) given (λ k. given (start + k)) (take n deltas) (λ k _. ap given (omega arith)) fills.0),
    )
contour_of_contours (n ∷ lengths) (suc i) start points given deltas inside sum_is fills =
    let before = sum (take i lengths) in
    let rest : n + before ≡ start = sym (sum_by-cons (λ k. k) n (take i lengths)) ∙ sum_is in
    let later = contour_of_contours lengths i before (drop n points) (λ k. given (n + k)) (drop n deltas) (omega arith) refl fills.1 in
    let placed : FillsContour (take (get_or lengths i 0) (drop start points)) (λ k. given (n + (before + k))) later.0 = rw (← rest, ← drop-drop before n points) later.1 in (
      later.0,
      contour_respects (take (get_or lengths i 0) (drop start points)) (λ k. given (n + (before + k))) (λ k. given (start + k)) later.0 (λ k _. ap given (omega arith)) placed,
    )

-- a contour cut out of the outline, with what is given to it, is filled as the outline's contour there
module _ (points : List Pair) (given : List (Option Pair)) (named : ℕ → Option Pair) (start n : ℕ) (same : length given ≡ length points) (each : (i : ℕ) → i < length points → given_at given i ≡ named i) (inside : start + n ≤ length points) where
  cut_is : start + n - start ≡ n
  cut_is = omega arith

  given_in_cut : (k : ℕ) → k < length (take n (drop start points)) → given_at (take n (drop start given)) k ≡ named (start + k)
  given_in_cut k below =
      let within : k < n = omega (arith, length-take n (drop start points)) in
      get_or-take n (drop start given) k None within ∙ (get_or-drop start given k None ∙ each (start + k) (omega arith))

  pub contour_from_cut : (new : List Pair) → FillsContour (take (start + n - start) (drop start points)) (given_at (take (start + n - start) (drop start given))) new → FillsContour (take n (drop start points)) (λ k. named (start + k)) new
  contour_from_cut new fills =
      contour_respects (take n (drop start points)) (given_at (take n (drop start given))) (λ k. named (start + k)) new given_in_cut (rw cut_is at fills)

  pub cut_from_contour : (new : List Pair) → FillsContour (take n (drop start points)) (λ k. named (start + k)) new → FillsContour (take (start + n - start) (drop start points)) (given_at (take (start + n - start) (drop start given))) new
  cut_from_contour new fills =
      rw cut_is
      (contour_respects (take n (drop start points)) (λ k. named (start + k)) (given_at (take n (drop start given))) new (λ k below. sym (given_in_cut k below)) fills)

-- what holds at each place of a list holds after a push that meets it
pub each_pushed : {X : Type 0} (P : ℕ → X → Type 0) (xs : List X) (x d : X) (n : ℕ) → length xs ≡ n → ((k : ℕ) → k < n → P k (get_or xs k d)) → P n x → (k : ℕ) → k < n + 1 → P k (get_or (xs ++ x ∷ []) k d)
each_pushed P xs x d n count each last k below =
    ⊎_elim
    (λ (less : k < n). rw (get_or_append_left xs (x ∷ []) d k (omega arith)) (each k less))
    (λ (not_less : n ≤ k).
    let here : k ≡ n = omega arith in
    rw (here, get_or_push xs x d n count) last)
    (cases_lt k n)

-- what a tuple names is one of its deltas
pub named_within : (P : Pair → Type 0) (points : List ℕ) (deltas : List Pair) (i : ℕ) → All P deltas → IfSome (named_delta points deltas i) P
named_within P [] deltas i all = tt
named_within P (point ∷ points) [] i all = tt
named_within P (point ∷ points) (delta ∷ deltas) i all =
    ⊎_elim
    (λ (same : point ≡ i). rw (named_first point points delta deltas i same) (All-head P delta deltas all))
    (λ (other : point ≡ i → ⊥). rw (named_later point points delta deltas i other) (named_within P points deltas i (All-tail P delta deltas all)))
    (cases_eq point i)

-- what holds of a value if there is one, and of the value in its place
pub unwrap_within : {X : Type 0} (P : X → Type 0) (x : Option X) (d : X) → IfSome x P → P d → P (unwrap_or x d)
unwrap_within P None d all default = default
unwrap_within P (Some x) d all default = all

-- deltas that fill the contours of an outline are one a point
pub contours_count : (lengths : List ℕ) (points : List Pair) (given : ℕ → Option Pair) (deltas : List Pair) → sum lengths ≡ length points → FillsContours lengths points given deltas → length deltas ≡ length points
contours_count [] points given deltas whole fills = ap length fills ∙ whole
contours_count (n ∷ lengths) points given deltas whole fills =
    let parts : n + sum lengths ≡ length points = sym (sum_by-cons (λ k. k) n lengths) ∙ whole in
    let rest = contours_count lengths (drop n points) (λ i. given (n + i)) (drop n deltas) (omega (arith, length-drop n points)) fills.1 in
    omega (arith, fills.0.one_each, rest, length-take n points, length-take n deltas, length-drop n points, length-drop n deltas)

-- one tuple more has its deltas
pub fills_push : (lengths : List ℕ) (points : List Pair) (tuples : List TupleVariation) (fills : List (List Pair)) (tuple : TupleVariation) (deltas : List Pair) → Fills lengths points tuples fills → FillsContours lengths points (named_delta tuple.points tuple.deltas) deltas → Fills lengths points (tuples ++ tuple ∷ []) (fills ++ deltas ∷ [])
fills_push lengths points [] [] tuple deltas fill last = (last, tt)
fills_push lengths points [] (f ∷ fills) tuple deltas fill last = absurd fill
fills_push lengths points (t ∷ tuples) [] tuple deltas fill last = absurd fill
fills_push lengths points (t ∷ tuples) (f ∷ fills) tuple deltas fill last = (fill.0, fills_push lengths points tuples fills tuple deltas fill.1 last)

-- where all tuples have theirs, each one has
pub fill_of_fills : (lengths : List ℕ) (points : List Pair) (tuples : List TupleVariation) (fills : List (List Pair)) (i : ℕ) (tuple : TupleVariation) → i < length tuples → tuple ≡ get_or tuples i tuple → Fills lengths points tuples fills → (deltas : List Pair) × FillsContours lengths points (named_delta tuple.points tuple.deltas) deltas
fill_of_fills lengths points [] fills i tuple inside is fill = absurd (omega arith)
fill_of_fills lengths points (t ∷ tuples) [] i tuple inside is fill = absurd fill
fill_of_fills lengths points (t ∷ tuples) (f ∷ fills) zero tuple inside is fill = (f, rw is fill.0)
fill_of_fills lengths points (t ∷ tuples) (f ∷ fills) (suc i) tuple inside is fill = fill_of_fills lengths points tuples fills i tuple (omega arith) is fill.1
