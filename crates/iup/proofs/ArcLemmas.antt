-- Arcs are the same in each round of the cycle.
use Rattle.std.proofs.Common.{◌≡◌, ℕ, ◌+◌, ◌-◌, ◌%◌, ◌<◌, ◌≤◌, List, [], ◌∷◌, length, get_or, inl, inr, refl, sym, ◌∙◌, ap, subst, arith}
use Rattle.std.proofs.Math.Nat.{add-mod_right, mod-add-mod, mod-mod}
use Rattle.fixpoint.specs.declared.plane.Pair.{Pair}
use Rattle.variation_rules.specs.InferredDelta.{Inferred, around, still}
use Rattle.iup.specs.Arcs.{Spans, Arc, Links, RisesFrom}
use Rattle.iup.specs.Bounds.{IsCyclic, Reaches, IsStartPoint}
use Rattle.iup.proofs.Paths.{Round}
use Rattle.iup.proofs.Starts.{IsStart}

-- places that are one on the cycle have the same pair
around_same : (pairs : List Pair) (n u w : ℕ) → length pairs ≡ n → u % n ≡ w % n → around pairs u ≡ around pairs w
around_same pairs n u w size same =
    let level : u % length pairs ≡ w % length pairs = subst (λ m. u % m ≡ w % m) (sym size) same in
    ap (λ k. get_or pairs k still) level

-- and the same delta is inferred there
pub inferred_same : (points deltas : List Pair) (u q v a b c : ℕ) → length deltas ≡ length points → u % length points ≡ a % length points → q % length points ≡ b % length points → v % length points ≡ c % length points → Inferred points deltas u q v → Inferred points deltas a b c
inferred_same points deltas u q v a b c size first point second inferred =
    let n = length points in
    let first_point = around_same points n u a refl first in
    let first_delta = around_same deltas n u a size first in
    let at_point = around_same points n q b refl point in
    let at_delta = around_same deltas n q b size point in
    let second_point = around_same points n v c refl second in
    let second_delta = around_same deltas n v c size second in
    record {
      x = rw (← first_point, ← first_delta, ← at_point, ← at_delta, ← second_point, ← second_delta) inferred.x;
      y = rw (← first_point, ← first_delta, ← at_point, ← at_delta, ← second_point, ← second_delta) inferred.y;
    }

-- so many places on
pub on_from : (u w k n : ℕ) → u % n ≡ w % n → (u + k) % n ≡ (w + k) % n
on_from u w k n same = sym (mod-add-mod u n k) ∙ (ap (λ x. (x + k) % n) same ∙ mod-add-mod w n k)

-- arcs of one length from places that are one on the cycle
pub spans_same : (points deltas : List Pair) (a c k : ℕ) → length deltas ≡ length points → a % length points ≡ c % length points → Spans points deltas a (a + k) → Spans points deltas c (c + k)
spans_same points deltas a c k size same spans q low high =
    let n = length points in
    let back : c + (q - c) ≡ q = omega arith in
    let point : (a + (q - c)) % n ≡ q % n = on_from a c (q - c) n same ∙ ap (λ x. x % n) back in
    inferred_same points deltas a (a + (q - c)) (a + k) c q (c + k) size same point (on_from a c k n same)
    (spans (a + (q - c)) (omega arith) (omega arith))

-- an arc between places told by its length
pub spans_to : (points deltas : List Pair) (a b : ℕ) → a ≤ b → Spans points deltas a b → Spans points deltas a (a + (b - a))
spans_to points deltas a b ahead spans =
    let back : b ≡ a + (b - a) = omega arith in
    subst (λ x. Spans points deltas a x) back spans

pub spans_from : (points deltas : List Pair) (a b : ℕ) → a ≤ b → Spans points deltas a (a + (b - a)) → Spans points deltas a b
spans_from points deltas a b ahead spans =
    let back : a + (b - a) ≡ b = omega arith in
    subst (λ x. Spans points deltas a x) back spans

-- arcs are steps round the cycle
pub reaches_cyclic : (points deltas : List Pair) → length deltas ≡ length points → IsCyclic (Reaches points deltas) (length points)
reaches_cyclic points deltas size =
    let n = length points in
    record {
      ahead = λ a b reach. reach.ahead;
      within = λ a b reach. reach.within;
      up = λ a b reach. record {
        ahead = omega (arith, reach.ahead);
        within = omega (arith, reach.within);
        spans =
            let ahead = reach.ahead in
            let end : a + n + (b - a) ≡ b + n = omega arith in
            subst (λ x. Spans points deltas (a + n) x) end
            (spans_same points deltas a (a + n) (b - a) size (sym (add-mod_right a n)) (spans_to points deltas a b (omega arith) reach.spans));
      };
      down = λ a b reach. record {
        ahead = omega (arith, reach.ahead);
        within = omega (arith, reach.within);
        spans =
            let ahead = reach.ahead in
            let end : b + n ≡ a + n + (b - a) = omega arith in
            spans_from points deltas a b (omega arith)
            (spans_same points deltas (a + n) a (b - a) size (add-mod_right a n) (subst (λ x. Spans points deltas (a + n) x) end reach.spans));
      };
    }

-- the arc of a step, told by its point and length, and back
pub arc_from_step : (points deltas : List Pair) (s a b : ℕ) → length deltas ≡ length points → Reaches points deltas (s + a) (s + b) → Arc points deltas ((s + a) % length points) (b - a)
arc_from_step points deltas s a b size reach =
    let ahead = reach.ahead in
    let end : s + b ≡ s + a + (b - a) = omega arith in
    spans_same points deltas (s + a) ((s + a) % length points) (b - a) size (sym (mod-mod (s + a) (length points)))
    (subst (λ x. Spans points deltas (s + a) x) end reach.spans)

pub arc_from_place : (points deltas : List Pair) (a b : ℕ) → length deltas ≡ length points → Reaches points deltas a b → Arc points deltas (a % length points) (b - a)
arc_from_place points deltas a b size reach =
    let ahead = reach.ahead in
    spans_same points deltas a (a % length points) (b - a) size (sym (mod-mod a (length points))) (spans_to points deltas a b (omega arith) reach.spans)

pub step_from_arc : (points deltas : List Pair) (u k : ℕ) → length deltas ≡ length points → 0 < k → k ≤ length points → Arc points deltas (u % length points) k → Reaches points deltas u (u + k)
step_from_arc points deltas u k size some few arc = record {
  ahead = omega arith;
  within = omega arith;
  spans = spans_same points deltas (u % length points) u k size (mod-mod u (length points)) arc;
}

-- the two words for a start
pub start_point : (points deltas : List Pair) (p s : ℕ) → IsStart (Reaches points deltas) (length points) p s → IsStartPoint points deltas p s
start_point points deltas p s (inl same) = inl same
start_point points deltas p s (inr over) =
    let after = over.after in
    let before = over.before in
    let place : s + (over.place - s) ≡ over.place = omega arith in
    inr (
      over.place - s,
      over.to - s,
      record {
        after = omega arith;
        before = omega arith;
        within = omega (arith, over.edge.within);
        over = ap (λ x. x % length points) place ∙ over.is;
        arc = spans_to points deltas s over.to (omega arith) over.edge.spans;
      },
    )

-- the links of a set are steps round the cycle
pub round_from_links : (points deltas : List Pair) (a : ℕ) (xs : List ℕ) (end : ℕ) → RisesFrom (a + 1) (length points) xs → a < end → end ≤ a + length points → length points ≤ end → Links points deltas a xs end → Round (Reaches points deltas) a xs end
round_from_links points deltas a [] end rises ahead within whole links = record { ahead = ahead; within = within; spans = links }
round_from_links points deltas a (x ∷ xs) end rises ahead within whole links =
    let above : a + 1 ≤ x = rises.0 in
    let below : x < length points = rises.1 in (
      record { ahead = omega arith; within = omega arith; spans = links.0 },
      round_from_links points deltas x xs end rises.2 (omega arith) (omega arith) whole links.1,
    )

pub links_from_round : (points deltas : List Pair) (a : ℕ) (xs : List ℕ) (end : ℕ) → Round (Reaches points deltas) a xs end → Links points deltas a xs end
links_from_round points deltas a [] end round = round.spans
links_from_round points deltas a (x ∷ xs) end round = (round.0.spans, links_from_round points deltas x xs end round.1)
