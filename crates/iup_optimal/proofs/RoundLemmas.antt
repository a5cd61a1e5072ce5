-- The shortest ways round, from the starts of a pivot.
use Rattle.std.proofs.Common.{◌≡◌, ℕ, suc, ◌+◌, ◌-◌, ◌%◌, ◌<◌, ◌≤◌, ◌⊎◌, List, length, get_or, inl, inr, refl, sym, ◌∙◌, subst, ⊎_elim, arith}
use Rattle.std.proofs.Math.Nat.{add-mod_right, mod-eq_of_lt}
use Rattle.std.proofs.lemmas.Bool.{cases_lt, cases_eq}
use Rattle.fixpoint.specs.declared.plane.Pair.{Pair}
use Rattle.iup.specs.Bounds.{Path, IsCyclic, Reaches, IsLeastRow, IsStartPoint}
use Rattle.iup.proofs.Paths.{path_meets, path_join, path_up, path_down, path_ahead}
use Rattle.iup.proofs.Starts.{IsStart, closed_least}
use Rattle.iup.proofs.ArcLemmas.{reaches_cyclic, start_point}
use Rattle.iup_optimal.specs.declared.rounds.Rounds.{Rounds}
use Rattle.iup_optimal.specs.Rows.{IsLeastWay, IsRowBack}
use Rattle.iup_optimal.specs.Rounds.{Passes, Bounded, IsRound, AreRounds, Precedes, AreBestTo, AreBest}

-- a way that passes a place goes round from it too
pub passing_round : (E : ℕ → ℕ → Type 0) (n s w i j m : ℕ) → IsCyclic E n → i + j ≡ m → Path E s (w + n) i → Path E (w + n) (s + n) j → Path E w (w + n) m
passing_round E n s w i j m cyclic total first rest =
    path_down E n cyclic w (w + n) m
    (path_join E (w + n) (s + n) (w + n + n) j i m (omega (arith, total)) rest (path_up E n cyclic s (w + n) i first))

-- and is as long as the two parts
pub passes_length : (E : ℕ → ℕ → Type 0) (n s m w : ℕ) → Passes E n s m w → Path E s (s + n) m
passes_length E n s m w passes = path_join E s passes.place (s + n) passes.before passes.after m passes.total passes.first passes.rest

-- The least numbers to each place of the round from s and from each to its end, and the tests of the first places of the next round.
pub record FirstPassed (n s : ℕ) (row left : List ℕ) (place : ℕ) : Type 0 where
  pub from_start : n - s ≤ place
  pub none : (a : ℕ) → n - s ≤ a → a < place → get_or row a 0 + get_or left (n - a) 0 ≡ get_or row n 0 → ⊥

module _ (points deltas : List Pair) (same : length deltas ≡ length points) (s : ℕ) (below : s < length points) (row left : List ℕ) (is_row : IsLeastRow points deltas s row) (is_left : IsRowBack (Reaches points deltas) (s + length points) left) (size : length left ≡ length points + 1) where
  left_of : (a : ℕ) → a ≤ length points → IsLeastWay (Reaches points deltas) (s + a) (s + length points) (get_or left (length points - a) 0)
  left_of a inside =
      let n = length points in
      let place : s + n - (n - a) ≡ s + a = omega arith in
      subst (λ x. IsLeastWay (Reaches points deltas) x (s + n) (get_or left (n - a) 0)) place (is_left.each (n - a) (omega arith))

  -- a place passed by a way of as few steps passes the test
  passed_tests : (w : ℕ) → Passes (Reaches points deltas) (length points) s (get_or row (length points) 0) w → (a : ℕ) → w + length points ≡ s + a → a ≤ length points → w < s → get_or row a 0 + get_or left (length points - a) 0 ≡ get_or row (length points) 0
  passed_tests w passes a at inside earlier =
      let n = length points in
      let cyclic = reaches_cyclic points deltas same in
      let E : ℕ → ℕ → Type 0 = Reaches points deltas in
      let from = path_ahead E n cyclic s passes.place passes.before passes.first in
      let here : passes.place ≡ s + a = ⊎_elim (λ (own : passes.place ≡ w). absurd (omega arith)) (λ (next : passes.place ≡ w + n). next ∙ at) passes.here in
      let first = is_row.least a passes.before inside (subst (λ x. Path E s x passes.before) here passes.first) in
      let rest = (left_of a inside).least passes.after (subst (λ x. Path E x (s + n) passes.after) here passes.rest) in
      let whole = is_row.least n (get_or row a 0 + get_or left (n - a) 0) (omega arith)
      (path_join E s (s + a) (s + n) (get_or row a 0) (get_or left (n - a) 0) (get_or row a 0 + get_or left (n - a) 0) refl (is_row.leads a inside) (left_of a inside).leads) in
      let total = passes.total in
      omega arith

  none_passed : (place f : ℕ) → FirstPassed (length points) s row left place → f ≤ s → f + length points ≡ s + place → (w : ℕ) → w < f → Passes (Reaches points deltas) (length points) s (get_or row (length points) 0) w → ⊥
  none_passed place f seen early at w before passes =
      let n = length points in
      let a : ℕ = w + n - s in
      seen.none a (omega arith) (omega arith) (passed_tests w passes a (omega arith) (omega arith) (omega arith))

  -- the first place that is passed
  pub rounds_passed : (place : ℕ) → FirstPassed (length points) s row left place → place < length points → get_or row place 0 + get_or left (length points - place) 0 ≡ get_or row (length points) 0 → AreRounds (Reaches points deltas) (length points) s (record { size = get_or row (length points) 0; first = s + place - length points })
  rounds_passed place seen inside total =
      let n = length points in
      let from = seen.from_start in
      let f : ℕ = s + place - n in
      let at : s + place ≡ f + n = omega arith in
      record {
        is_round = record {
          inside = omega arith;
          round = passing_round (Reaches points deltas) n s f (get_or row place 0) (get_or left (n - place) 0) (get_or row n 0) (reaches_cyclic points deltas same) total
              (subst (λ x. Path (Reaches points deltas) s x (get_or row place 0)) at (is_row.leads place (omega arith)))
              (subst (λ x. Path (Reaches points deltas) x (s + n) (get_or left (n - place) 0)) at (left_of place (omega arith)).leads);
        };
        bounded = record {
          least = λ k path. is_row.least n k (omega arith) path;
          none_before = none_passed place f seen (omega arith) (sym at);
        };
      }

  -- or the start itself
  pub rounds_own : (place : ℕ) → FirstPassed (length points) s row left place → length points ≤ place → AreRounds (Reaches points deltas) (length points) s (record { size = get_or row (length points) 0; first = s })
  rounds_own place seen ended =
      let n = length points in
      record {
        is_round = record { inside = below; round = is_row.leads n (omega arith) };
        bounded = record {
          least = λ k path. is_row.least n k (omega arith) path;
          none_before = none_passed n s (record { from_start = omega arith; none = λ a low before. seen.none a low (omega arith) }) (omega arith) refl;
        };
      }

-- what bounds later rounds bounds those that precede them
pub bounded_from : (E : ℕ → ℕ → Type 0) (n x : ℕ) (one other : Rounds) → Precedes one other → Bounded E n x other → Bounded E n x one
bounded_from E n x one other (inl fewer) bounded = record {
  least = λ k path. omega (arith, bounded.least k path);
  none_before = λ w before passes.
      let bound = bounded.least one.size (passes_length E n x one.size w passes) in
      omega arith;
}
bounded_from E n x one other (inr both) bounded = record {
  least = λ k path. omega (arith, bounded.least k path, both.0);
  none_before = λ w before passes. bounded.none_before w (omega (arith, both.1)) (subst (λ m. Passes E n x m w) both.0 passes);
}

-- one start more
pub best_push : (points deltas : List Pair) (p s : ℕ) (best own next : Rounds) → AreBestTo points deltas p s best → AreRounds (Reaches points deltas) (length points) s own → ((next ≡ best) ⊎ (next ≡ own)) → Precedes next best → Precedes next own → AreBestTo points deltas p (s + 1) next
best_push points deltas p s best own next so_far rounds one_of before_best before_own = record {
  is_round = ⊎_elim
      (λ (kept : next ≡ best). subst (λ (r : Rounds). IsRound (Reaches points deltas) (length points) r) (sym kept) so_far.is_round)
      (λ (taken : next ≡ own). subst (λ (r : Rounds). IsRound (Reaches points deltas) (length points) r) (sym taken) rounds.is_round)
      one_of;
  bounded = λ x within start. ⊎_elim
      (λ (here : x ≡ s). subst (λ y. Bounded (Reaches points deltas) (length points) y next) (sym here) (bounded_from (Reaches points deltas) (length points) s next own before_own rounds.bounded))
      (λ (other : x ≡ s → ⊥). bounded_from (Reaches points deltas) (length points) x next best before_best
      (so_far.bounded x (⊎_elim (λ (low : x < s + 1). inl (omega arith)) (λ (pivot : x ≡ p). inr pivot) within) start))
      (cases_eq x s);
}

-- the pivot again, or a point that is no start
pub best_skip : (points deltas : List Pair) (p s : ℕ) (best : Rounds) → AreBestTo points deltas p s best → (s ≡ p) ⊎ (IsStartPoint points deltas p s → ⊥) → AreBestTo points deltas p (s + 1) best
best_skip points deltas p s best so_far skipped = record {
  is_round = so_far.is_round;
  bounded = λ x within start. ⊎_elim
      (λ (here : x ≡ s). ⊎_elim
      (λ (pivot : s ≡ p). so_far.bounded x (inr (here ∙ pivot)) start)
      (λ (none : IsStartPoint points deltas p s → ⊥). absurd (none (subst (λ y. IsStartPoint points deltas p y) here start)))
      skipped)
      (λ (other : x ≡ s → ⊥). so_far.bounded x (⊎_elim (λ (low : x < s + 1). inl (omega arith)) (λ (pivot : x ≡ p). inr pivot) within) start)
      (cases_eq x s);
}

-- a place of the first two rounds that is p on the cycle, at w or after it
record Placed (n p w : ℕ) : Type 0 where
  q : ℕ
  from : w ≤ q
  before : q < w + n
  is : q % n ≡ p
  first : q < n → q ≡ p
  second : n ≤ q → q ≡ p + n

placed : (n p w : ℕ) → p < n → w < n → Placed n p w
placed n p w inside also =
    ⊎_elim
    (λ (later : p < w). record {
      q = p + n;
      from = omega arith;
      before = omega arith;
      is = add-mod_right p n ∙ mod-eq_of_lt inside;
      first = λ below. absurd (omega arith);
      second = λ _. refl;
    })
    (λ (not_later : w ≤ p). record {
      q = p;
      from = not_later;
      before = omega arith;
      is = mod-eq_of_lt inside;
      first = λ _. refl;
      second = λ above. absurd (omega arith);
    })
    (cases_lt p w)

-- each way round from a place is one from a start that passes the place
pub record FromStart (E : ℕ → ℕ → Type 0) (n p m w : ℕ) : Type 0 where
  pub start : ℕ
  pub inside : start < n
  pub is_start : IsStart E n p start
  pub passes : Passes E n start m w

pub passed_from_start : (E : ℕ → ℕ → Type 0) (n : ℕ) → IsCyclic E n → (p m w : ℕ) → p < n → w < n → Path E w (w + n) m → FromStart E n p m w
passed_from_start E n cyclic p m w inside also path =
    let place = placed n p w inside also in
    let q = place.q in
    let met = path_meets E w (w + n) m q place.from place.before path in
    let u = met.from in
    let v = met.to in
    let low = met.low in
    let high = met.high in
    let q_below = place.before in
    let total : suc met.after + met.before ≡ m = omega (arith, met.total) in
    let onward : Path E u (w + n) (suc met.after) = (v, met.edge, met.later) in
    ⊎_elim
    (λ (below : u < n). record {
      start = u;
      inside = below;
      is_start = ⊎_elim
          (λ (over : u < q). inr (record { place = q; to = v; after = over; before = high; edge = met.edge; is = place.is }))
          (λ (not_over : q ≤ u). inl (omega (arith, place.first (omega arith))))
          (cases_lt u q);
      passes = record {
        place = w + n;
        here = inr refl;
        before = suc met.after;
        after = met.before;
        total = total;
        first = onward;
        rest = path_up E n cyclic w u met.before met.first;
      };
    })
    (λ (above : n ≤ u).
    let second = place.second (omega arith) in
    let from : u ≡ u - n + n = omega arith in
    let to : v ≡ v - n + n = omega arith in
    record {
      start = u - n;
      inside = omega arith;
      is_start = ⊎_elim
          (λ (over : u < q). inr (record {
            place = p;
            to = v - n;
            after = omega arith;
            before = omega arith;
            edge = cyclic.down (u - n) (v - n) (subst (λ x. E x (v - n + n)) from (subst (λ x. E u x) to met.edge));
            is = mod-eq_of_lt inside;
          }))
          (λ (not_over : q ≤ u). inl (omega arith))
          (cases_lt u q);
      passes = record {
        place = w;
        here = inl refl;
        before = suc met.after;
        after = met.before;
        total = total;
        first = path_down E n cyclic (u - n) w (suc met.after) (subst (λ x. Path E x (w + n) (suc met.after)) from onward);
        rest = subst (λ x. Path E w x met.before) from met.first;
      };
    })
    (cases_lt u n)

-- the best of all starts
pub best_of_all : (points deltas : List Pair) (p s : ℕ) (best : Rounds) → length deltas ≡ length points → p < length points → length points ≤ s → AreBestTo points deltas p s best → AreBest (Reaches points deltas) (length points) best
best_of_all points deltas p s best same inside all so_far =
    let n = length points in
    let cyclic = reaches_cyclic points deltas same in
    record {
      fewest = record {
        reached = (best.first, so_far.is_round.inside, so_far.is_round.round);
        least = λ w k below path. closed_least (Reaches points deltas) n cyclic p best.size inside
            (λ x j low start round. (so_far.bounded x (inl (omega arith)) (start_point points deltas p x start)).least j round)
            w k below path;
      };
      first = record {
        inside = so_far.is_round.inside;
        round = so_far.is_round.round;
        none_before = λ w before path.
            let first = so_far.is_round.inside in
            let from = passed_from_start (Reaches points deltas) n cyclic p best.size w inside (omega arith) path in
            let low = from.inside in
            (so_far.bounded from.start (inl (omega arith)) (start_point points deltas p from.start from.is_start)).none_before w before from.passes;
      };
    }
