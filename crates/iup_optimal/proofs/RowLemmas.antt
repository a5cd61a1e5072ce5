-- Least numbers of steps, place by place.
use Rattle.std.proofs.Common.{set, min, ◌∙◌, ap, ◌≡◌, ℕ, zero, suc, ◌+◌, ◌-◌, ◌<◌, ◌≤◌, List, [], ◌∷◌, ◌++◌, length, get_or, sym, subst, ⊎_elim, arith}
use Rattle.std.proofs.lemmas.Bool.{cases_lt, cases_eq}
use Rattle.std.proofs.lemmas.List.{get_or_push, get_or_append_left, length_push, get_or-set_same, get_or-set_other, length-set}
use Rattle.fixpoint.specs.declared.plane.Pair.{Pair}
use Rattle.iup.specs.Bounds.{Path, IsCyclic, Reaches, IsLeastRow, IsRightRow}
use Rattle.iup.proofs.Paths.{path_more, path_ahead, row_bounds}
use Rattle.iup.proofs.ArcLemmas.{step_from_arc, reaches_cyclic}
use Rattle.iup_optimal.specs.Rows.{IsLeastWay, IsRowVia, IsRowBack}

-- a neighbour is one step away
pub one_step : (points deltas : List Pair) (a : ℕ) → 0 < length points → Reaches points deltas a (a + 1)
one_step points deltas a some = record {
  ahead = omega arith;
  within = omega arith;
  spans = λ q low high. absurd (omega arith);
}

-- no step leads nowhere
pub least_start : (E : ℕ → ℕ → Type 0) (a b : ℕ) → a ≡ b → IsLeastWay E a b 0
least_start E a b same = record { leads = same; least = λ other path. omega arith }

pub back_start : (E : ℕ → ℕ → Type 0) (end : ℕ) → IsRowBack E end (0 ∷ [])
back_start E end = record {
  each = λ b inside.
      let here : b ≡ 0 = omega arith in
      subst (λ x. IsLeastWay E (end - x) end (get_or (0 ∷ []) x 0)) (sym here) (least_start E (end - 0) end (omega arith));
  small = λ b inside.
      let here : b ≡ 0 = omega arith in
      subst (λ (x : ℕ). get_or (0 ∷ []) x 0 ≤ x) (sym here) (omega arith);
}

pub back_push : (E : ℕ → ℕ → Type 0) (end : ℕ) (row : List ℕ) (k : ℕ) → IsRowBack E end row → IsLeastWay E (end - length row) end k → k ≤ length row → IsRowBack E end (row ++ k ∷ [])
back_push E end row k so_far new small = record {
  each = λ b inside. ⊎_elim
      (λ (before : b < length row). rw (get_or_append_left row (k ∷ []) 0 b before) (so_far.each b before))
      (λ (not_before : length row ≤ b).
      let here : length row ≡ b = omega (arith, length_push row k) in
      rw (get_or_push row k 0 b here) (subst (λ x. IsLeastWay E (end - x) end k) here new))
      (cases_lt b (length row));
  small = λ b inside. ⊎_elim
      (λ (before : b < length row). rw (get_or_append_left row (k ∷ []) 0 b before) (so_far.small b before))
      (λ (not_before : length row ≤ b).
      let here : length row ≡ b = omega (arith, length_push row k) in
      rw (get_or_push row k 0 b here) (omega arith))
      (cases_lt b (length row));
}

-- steps to the next place lead anywhere
pub by_ones : (points deltas : List Pair) (s a : ℕ) → 0 < length points → Path (Reaches points deltas) s (s + a) a
by_ones points deltas s zero some = omega arith
by_ones points deltas s (suc a) some =
    let end : s + a + 1 ≡ s + suc a = omega arith in
    subst (λ x. Path (Reaches points deltas) s x (suc a)) end (path_more (Reaches points deltas) s (s + a) (s + a + 1) a (by_ones points deltas s a some) (one_step points deltas (s + a) some))

-- so the places' own numbers lead there
pub via_start : (points deltas : List Pair) (s : ℕ) (row : List ℕ) → 0 < length points → length row ≡ length points + 1 → ((a : ℕ) → a ≤ length points → get_or row a 0 ≡ a) → IsRowVia (Reaches points deltas) s (length points) 0 row
via_start points deltas s row some size plain = record {
  size = size;
  zero_first = plain 0 (omega arith);
  leads = λ a inside. subst (λ k. Path (Reaches points deltas) s (s + a) k) (sym (plain a inside)) (by_ones points deltas s a some);
  small = λ a inside. omega (arith, plain a inside);
  steps = λ a c before. absurd (omega arith);
}

-- a number that one step more makes less
pub via_set : (E : ℕ → ℕ → Type 0) (s n b from to : ℕ) (row : List ℕ) → IsRowVia E s n b row → b ≤ from → from < to → to ≤ n → E (s + from) (s + to) → get_or row from 0 + 1 < get_or row to 0 → IsRowVia E s n b (set row to (get_or row from 0 + 1))
via_set E s n b from to row via before ahead inside edge less =
    let through : ℕ = get_or row from 0 + 1 in
    let size = via.size in
    let here : get_or (set row to through) to 0 ≡ through = get_or-set_same row to through 0 (omega arith) in
    let other : (a : ℕ) → (a ≡ to → ⊥) → get_or (set row to through) a 0 ≡ get_or row a 0 = λ a apart. get_or-set_other row to a through 0 apart in
    record {
      size = length-set row to through ∙ size;
      zero_first = other 0 (λ same. omega arith) ∙ via.zero_first;
      leads = λ a within. ⊎_elim
          (λ (same : a ≡ to).
          let steps : suc (get_or row from 0) ≡ through = omega arith in
          let more = path_more E s (s + from) (s + to) (get_or row from 0) (via.leads from (omega arith)) edge in
          subst (λ x. Path E s (s + x) (get_or (set row to through) x 0)) (sym same) (subst (λ k. Path E s (s + to) k) (steps ∙ sym here) more))
          (λ (apart : a ≡ to → ⊥). subst (λ k. Path E s (s + a) k) (sym (other a apart)) (via.leads a within))
          (cases_eq a to);
      small = λ a within. ⊎_elim
          (λ (same : a ≡ to). subst (λ (x : ℕ). get_or (set row to through) x 0 ≤ x) (sym same) (omega (arith, here, via.small to inside)))
          (λ (apart : a ≡ to → ⊥). omega (arith, other a apart, via.small a within))
          (cases_eq a to);
      steps = λ a c low later within step. ⊎_elim
          (λ (same : c ≡ to).
          let value : get_or (set row to through) c 0 ≡ through = subst (λ (x : ℕ). get_or (set row to through) x 0 ≡ through) (sym same) here in
          let bound = via.steps a to low (omega arith) inside (subst (λ x. E (s + a) (s + x)) same step) in
          omega (arith, value, bound, other a (λ equal. omega arith)))
          (λ (apart : c ≡ to → ⊥). omega (arith, other c apart, other a (λ equal. omega arith), via.steps a c low later within step))
          (cases_eq c to);
    }

-- the steps from one more place
pub via_more : (E : ℕ → ℕ → Type 0) (s n b : ℕ) (row : List ℕ) → IsRowVia E s n b row → ((c : ℕ) → b < c → c ≤ n → E (s + b) (s + c) → get_or row c 0 ≤ get_or row b 0 + 1) → IsRowVia E s n (b + 1) row
via_more E s n b row via here = record {
  size = via.size;
  zero_first = via.zero_first;
  leads = via.leads;
  small = via.small;
  steps = λ a c low later within step. ⊎_elim
      (λ (before : a < b). via.steps a c before later within step)
      (λ (not_before : b ≤ a).
      let same : a ≡ b = omega arith in
      subst (λ x. get_or row c 0 ≤ get_or row x 0 + 1) (sym same) (here c (omega arith) within (subst (λ x. E (s + x) (s + c)) same step)))
      (cases_lt a b);
}

-- A row while the steps from one more place are looked at, those to places before low so far.
pub record Shortened (E : ℕ → ℕ → Type 0) (s n from low : ℕ) (row : List ℕ) : Type 0 where
  pub via : IsRowVia E s n from row
  pub after : from < low
  pub within : low ≤ n + 1
  pub seen : (c : ℕ) → from < c → c < low → E (s + from) (s + c) → get_or row c 0 ≤ get_or row from 0 + 1

-- a step to the nearest place from one on, that leads on by no fewer or by fewer
pub shortened_kept : (E : ℕ → ℕ → Type 0) (s n from low to : ℕ) (row : List ℕ) → Shortened E s n from low row → low ≤ to → to ≤ n → ((z : ℕ) → low ≤ z → z < to → E (s + from) (s + z) → ⊥) → get_or row to 0 ≤ get_or row from 0 + 1 → Shortened E s n from (to + 1) row
shortened_kept E s n from low to row so_far not_before inside none enough = record {
  via = so_far.via;
  after = omega (arith, so_far.after);
  within = omega arith;
  seen = λ c ahead below step. ⊎_elim
      (λ (before : c < low). so_far.seen c ahead before step)
      (λ (not_seen : low ≤ c). ⊎_elim
      (λ (nearer : c < to). absurd (none c not_seen nearer step))
      (λ (not_nearer : to ≤ c).
      let here : c ≡ to = omega arith in
      subst (λ x. get_or row x 0 ≤ get_or row from 0 + 1) (sym here) enough)
      (cases_lt c to))
      (cases_lt c low);
}

pub shortened_set : (E : ℕ → ℕ → Type 0) (s n from low to : ℕ) (row : List ℕ) → Shortened E s n from low row → low ≤ to → to ≤ n → ((z : ℕ) → low ≤ z → z < to → E (s + from) (s + z) → ⊥) → E (s + from) (s + to) → get_or row from 0 + 1 < get_or row to 0 → Shortened E s n from (to + 1) (set row to (get_or row from 0 + 1))
shortened_set E s n from low to row so_far not_before inside none edge less =
    let through : ℕ = get_or row from 0 + 1 in
    let after = so_far.after in
    let size = so_far.via.size in
    let via = via_set E s n from from to row so_far.via (omega arith) (omega arith) inside edge less in
    let here : get_or (set row to through) to 0 ≡ through = get_or-set_same row to through 0 (omega arith) in
    let other : (a : ℕ) → (a ≡ to → ⊥) → get_or (set row to through) a 0 ≡ get_or row a 0 = λ a apart. get_or-set_other row to a through 0 apart in
    let from_is = other from (λ same. omega arith) in
    shortened_kept E s n from low to (set row to through)
    (record {
      via = via;
      after = after;
      within = omega arith;
      seen = λ c ahead below step. omega (arith, so_far.seen c ahead below step, from_is, other c (λ same. omega arith));
    })
    not_before inside none (omega arith)

-- all steps from the place
pub shortened_all : (E : ℕ → ℕ → Type 0) (s n from low : ℕ) (row : List ℕ) → Shortened E s n from low row → ((z : ℕ) → low ≤ z → z ≤ n → E (s + from) (s + z) → ⊥) → IsRowVia E s n (from + 1) row
shortened_all E s n from low row so_far none =
    via_more E s n from row so_far.via
    (λ c ahead inside step. ⊎_elim
    (λ (before : c < low). so_far.seen c ahead before step)
    (λ (not_seen : low ≤ c). absurd (none c not_seen inside step))
    (cases_lt c low))

-- where no step leads on by fewer, the numbers are the least
pub row_least : (points deltas : List Pair) (s : ℕ) (row : List ℕ) → length deltas ≡ length points → IsRowVia (Reaches points deltas) s (length points) (length points) row → IsLeastRow points deltas s row
row_least points deltas s row same via = record {
  size = via.size;
  leads = via.leads;
  least = λ b k inside path. row_bounds (Reaches points deltas) (length points) (reaches_cyclic points deltas same) s (λ a. get_or row a 0) via.zero_first
      (λ a c low within step. via.steps a c (omega arith) low within step)
      b k inside path;
}

-- and no greater than the places' own
pub row_small : (points deltas : List Pair) (s : ℕ) (row : List ℕ) (a : ℕ) → 0 < length points → IsLeastRow points deltas s row → a ≤ length points → get_or row a 0 ≤ a
row_small points deltas s row a some least inside = least.least a a inside (by_ones points deltas s a some)

-- A number so far of steps from one more place to the end: so many lead there, and no fewer by a step to a place before low.
pub record FewestBack (E : ℕ → ℕ → Type 0) (from end : ℕ) (row : List ℕ) (low k : ℕ) : Type 0 where
  pub leads : Path E from end k
  pub fewest : (z : ℕ) → from < z → z < low → z ≤ end → E from z → k ≤ get_or row (end - z) 0 + 1

-- the least numbers from the places after it
left_at : (E : ℕ → ℕ → Type 0) (from end : ℕ) (row : List ℕ) → IsRowBack E end row → from + length row ≡ end → (z : ℕ) → from < z → z ≤ end → IsLeastWay E z end (get_or row (end - z) 0)
left_at E from end row so_far size z after inside =
    let place : end - (end - z) ≡ z = omega arith in
    subst (λ x. IsLeastWay E x end (get_or row (end - z) 0)) place (so_far.each (end - z) (omega arith))

-- a step to the next place
pub back_next : (E : ℕ → ℕ → Type 0) (from end : ℕ) (row : List ℕ) → IsRowBack E end row → from + length row ≡ end → 0 < length row → E from (from + 1) → FewestBack E from end row (from + 2) (get_or row (length row - 1) 0 + 1)
back_next E from end row so_far size some edge =
    let at : end - (from + 1) ≡ length row - 1 = omega arith in
    let rest = (left_at E from end row so_far size (from + 1) (omega arith) (omega arith)).leads in
    let steps : suc (get_or row (end - (from + 1)) 0) ≡ get_or row (length row - 1) 0 + 1 = omega (arith, ap (λ x. get_or row x 0) at) in
    record {
      leads = subst (λ k. Path E from end k) steps (from + 1, edge, rest);
      fewest = λ z after below inside step.
          let here : z ≡ from + 1 = omega arith in
          omega (arith, ap (λ x. get_or row (end - x) 0) here, ap (λ x. get_or row x 0) at);
    }

-- a step to the nearest place from one on
pub back_more : (E : ℕ → ℕ → Type 0) (from end : ℕ) (row : List ℕ) (low k to : ℕ) → IsRowBack E end row → from + length row ≡ end → FewestBack E from end row low k → from < low → low ≤ to → to ≤ end → E from to → ((z : ℕ) → low ≤ z → z < to → E from z → ⊥) → FewestBack E from end row (to + 1) (min k (get_or row (end - to) 0 + 1))
back_more E from end row low k to so_far size found after not_before inside edge none = record {
  leads = ⊎_elim
      (λ (less : get_or row (end - to) 0 + 1 < k).
      let steps : suc (get_or row (end - to) 0) ≡ min k (get_or row (end - to) 0 + 1) = omega arith in
      subst (λ m. Path E from end m) steps (to, edge, (left_at E from end row so_far size to (omega arith) inside).leads))
      (λ (not_less : k ≤ get_or row (end - to) 0 + 1).
      let steps : k ≡ min k (get_or row (end - to) 0 + 1) = omega arith in
      subst (λ m. Path E from end m) steps found.leads)
      (cases_lt (get_or row (end - to) 0 + 1) k);
  fewest = λ z ahead below within step. ⊎_elim
      (λ (before : z < low). omega (arith, found.fewest z ahead before within step))
      (λ (not_seen : low ≤ z). ⊎_elim
      (λ (nearer : z < to). absurd (none z not_seen nearer step))
      (λ (not_nearer : to ≤ z).
      let here : z ≡ to = omega arith in
      omega (arith, ap (λ x. get_or row (end - x) 0) here))
      (cases_lt z to))
      (cases_lt z low);
}

-- where no step leads farther, it is the least
pub back_least : (E : ℕ → ℕ → Type 0) (n from end : ℕ) (row : List ℕ) (low k : ℕ) → IsCyclic E n → IsRowBack E end row → from + length row ≡ end → 0 < length row → FewestBack E from end row low k → ((z : ℕ) → low ≤ z → z ≤ end → E from z → ⊥) → IsLeastWay E from end k
back_least E n from end row low k cyclic so_far size some found none = record {
  leads = found.leads;
  least = λ other path. bound other path;
}
  where
    bound : (other : ℕ) → Path E from end other → k ≤ other
    bound zero path = absurd (omega (arith, path))
    bound (suc other) path =
        let z = path.0 in
        let ahead = cyclic.ahead from z path.1 in
        let inside = path_ahead E n cyclic z end other path.2 in
        let later = (left_at E from end row so_far size z ahead (omega arith)).least other path.2 in
        ⊎_elim
        (λ (seen : z < low). omega (arith, later, found.fewest z ahead seen (omega arith) path.1))
        (λ (not_seen : low ≤ z). absurd (none z not_seen (omega arith) path.1))
        (cases_lt z low)

-- a row of least numbers is right for what it comes to at its end, and less
pub right_from_least : (points deltas : List Pair) (m s : ℕ) (row : List ℕ) → length deltas ≡ length points → IsLeastRow points deltas s row → m ≤ get_or row (length points) 0 → IsRightRow points deltas m s row
right_from_least points deltas m s row same least enough = record {
  size = least.size;
  zero_first = let none = least.least 0 0 (omega arith) (omega arith) in omega arith;
  steps = λ a k some inside arc.
      let edge = step_from_arc points deltas (s + a) k same some (omega arith) arc in
      let end : s + a + k ≡ s + (a + k) = omega arith in
      let more = path_more (Reaches points deltas) s (s + a) (s + (a + k)) (get_or row a 0) (least.leads a (omega arith)) (subst (λ x. Reaches points deltas (s + a) x) end edge) in
      let bound = least.least (a + k) (suc (get_or row a 0)) inside more in
      omega arith;
  last = enough;
}
