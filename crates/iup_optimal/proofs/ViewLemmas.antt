-- What is seen from the first point of an arc, point by point.
use Rattle.std.proofs.Common.{◌≡◌, ℕ, ◌+◌, ◌%◌, ◌<◌, ◌≤◌, ◌↔◌, All, Bool, IsTrue, List, length, ◌∙◌, subst, ⊎_elim, arith}
use Rattle.std.proofs.lemmas.Bool.{cases_lt}
use Rattle.fixpoint.specs.declared.plane.Pair.{Pair}
use Rattle.iup.specs.Arcs.{IsContour, Spans}
use Rattle.variation_rules.specs.FontUnits.{IsReference, AreFWords}
use Rattle.variation_rules.specs.InferredDelta.{around, still}
use Rattle.variation_rules.specs.declared.inferred.Reference.{Reference}
use Rattle.iup_optimal.specs.declared.sight.Sight.{Sight}
use Rattle.iup_optimal.specs.declared.view.View.{View}
use Rattle.iup_optimal.specs.Sides.{IsSight, Admits, BetweenThem, x_of, y_of}
use Rattle.iup_optimal.specs.Views.{SeenTo, AllowsNone}

-- what holds of the places seen and of one more holds of all up to it
one_more : (P : ℕ → Type 0) (from to : ℕ) → from < to → ((((q : ℕ) → from < q → q < to → P q) × P to) ↔ ((q : ℕ) → from < q → q < to + 1 → P q))
one_more P from to ahead = (
  λ both q low high. ⊎_elim
      (λ (before : q < to). both.0 q low before)
      (λ (not_before : to ≤ q). let here : to ≡ q = omega arith in subst P here both.1)
      (cases_lt q to),
  λ all. (λ q low high. all q low (omega arith), all to ahead (omega arith)),
)

-- one more is seen
pub seen_push : (points deltas : List Pair) (from to : ℕ) (across upward across_next upward_next : Sight) → from < to → SeenTo points deltas from to (record { across = across; upward = upward }) → IsSight across_next → IsSight upward_next → across_next.first ≡ across.first → upward_next.first ≡ upward.first
    → ((end : Reference) → Admits across_next end ↔ (Admits across end × BetweenThem across.first end (x_of points deltas to)))
    → ((end : Reference) → Admits upward_next end ↔ (Admits upward end × BetweenThem upward.first end (y_of points deltas to)))
    → SeenTo points deltas from (to + 1) (record { across = across_next; upward = upward_next })
seen_push points deltas from to across upward across_next upward_next ahead seen is_across is_upward first_x first_y more_x more_y =
    record {
      is_view = record { across = is_across; upward = is_upward };
      first_x = first_x ∙ seen.first_x;
      first_y = first_y ∙ seen.first_y;
      admits_x = λ end is.
          let step = one_more (λ q. BetweenThem (x_of points deltas from) end (x_of points deltas q)) from to ahead in
          let more = subst (λ (r : Reference). Admits across_next end ↔ (Admits across end × BetweenThem r end (x_of points deltas to))) seen.first_x (more_x end) in (
            λ admitted. step.0 ((seen.admits_x end is).0 (more.0 admitted).0, (more.0 admitted).1),
            λ all. more.1 ((seen.admits_x end is).1 (step.1 all).0, (step.1 all).1),
          );
      admits_y = λ end is.
          let step = one_more (λ q. BetweenThem (y_of points deltas from) end (y_of points deltas q)) from to ahead in
          let more = subst (λ (r : Reference). Admits upward_next end ↔ (Admits upward end × BetweenThem r end (y_of points deltas to))) seen.first_y (more_y end) in (
            λ admitted. step.0 ((seen.admits_y end is).0 (more.0 admitted).0, (more.0 admitted).1),
            λ all. more.1 ((seen.admits_y end is).1 (step.1 all).0, (step.1 all).1),
          );
    }

-- both admit the point at the place exactly where the arc to it holds
pub arc_is_admitted : (points deltas : List Pair) (from to : ℕ) (across upward : Sight) (holds : Bool) → SeenTo points deltas from to (record { across = across; upward = upward }) → IsReference (x_of points deltas to) → IsReference (y_of points deltas to) → (IsTrue holds ↔ (Admits across (x_of points deltas to) × Admits upward (y_of points deltas to))) → (IsTrue holds ↔ Spans points deltas from to)
arc_is_admitted points deltas from to across upward holds seen is_x is_y both = (
  λ tested q low high. record {
    x = (seen.admits_x (x_of points deltas to) is_x).0 (both.0 tested).0 q low high;
    y = (seen.admits_y (y_of points deltas to) is_y).0 (both.0 tested).1 q low high;
  },
  λ spans. both.1 (
    (seen.admits_x (x_of points deltas to) is_x).1 (λ q low high. (spans q low high).x),
    (seen.admits_y (y_of points deltas to) is_y).1 (λ q low high. (spans q low high).y),
  ),
)

-- the point at a place is of quantities that fit
fits_around : (pairs : List Pair) (place : ℕ) → 0 < length pairs → All AreFWords pairs → AreFWords (around pairs place)
fits_around pairs place some fit = fit (place % length pairs) still (omega arith)

-- where no end is left open, no longer arc holds
pub view_closed : (points deltas : List Pair) (from to end : ℕ) (view : View) → IsContour points deltas → SeenTo points deltas from to view → AllowsNone view → to ≤ end → Spans points deltas from end → ⊥
view_closed points deltas from to end view contour seen closed later spans =
    let some : 0 < length points = contour.some in
    let same = contour.same in
    let point = fits_around points end some contour.points_fit in
    let delta = fits_around deltas end (omega arith) contour.deltas_fit in
    ⊎_elim
    (λ (none : (r : Reference) → Admits view.across r → ⊥). none (x_of points deltas end)
    ((seen.admits_x (x_of points deltas end) (record { at = point.x; delta = delta.x })).1 (λ q low high. (spans q low (omega arith)).x)))
    (λ (none : (r : Reference) → Admits view.upward r → ⊥). none (y_of points deltas end)
    ((seen.admits_y (y_of points deltas end) (record { at = point.y; delta = delta.y })).1 (λ q low high. (spans q low (omega arith)).y)))
    closed
