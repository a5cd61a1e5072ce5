-- The starts of a pivot, and the least of their rows.
use Rattle.std.proofs.Common.{◌↔◌, IsTrue, false, Option, Some, None, ◌≡◌, ℕ, zero, suc, ◌+◌, ◌-◌, ◌%◌, ◌<◌, ◌≤◌, ◌⊎◌, Any, List, [], ◌∷◌, ◌++◌, length, get_or, inl, inr, refl, sym, ◌∙◌, ap, subst, ⊎_elim, arith}
use Rattle.std.proofs.Math.Nat.{add-mod_right, mod-eq_of_lt}
use Rattle.std.proofs.lemmas.Bool.{cases_lt}
use Rattle.std.proofs.lemmas.List.{get_or_push, get_or_append_left, get_or-map, length_push, length-map, map-append}
use Rattle.std.proofs.lemmas.List.Elements.{All-push}
use Rattle.std.proofs.lemmas.List.Quantifiers.{Any-push}
use Rattle.fixpoint.specs.declared.plane.Pair.{Pair}
use Rattle.iup.specs.Arcs.{RisesFrom}
use Rattle.iup.specs.Bounds.{Reaches, IsLeastRow, IsRightRow, IsStartPoint, Bounds}
use Rattle.iup.proofs.ArcLemmas.{spans_to}
use Rattle.iup.proofs.SetLemmas.{rises_push, rises_below}
use Rattle.iup_optimal.specs.declared.row.Row.{Row}
use Rattle.iup_optimal.specs.Rows.{AreRowsTo, starts_of}
use Rattle.iup_optimal.specs.Ways.{IsFewest}
use Rattle.iup_optimal.specs.Tables.{IsNextEnd}
use Rattle.std.specs.Option.{is_some}
use Rattle.iup_optimal.specs.LeastSets.{AreRightRows}
use Rattle.iup_optimal.proofs.RowLemmas.{right_from_least}

-- the place of the pivot after a point, in its round or the next
pub record PivotAfter (n p s over : ℕ) : Type 0 where
  pub after : s < over
  pub before : over < s + n
  pub is : over % n ≡ p

pub pivot_later : (n p s : ℕ) → p < n → s < p → PivotAfter n p s p
pivot_later n p s inside later = record { after = later; before = omega arith; is = mod-eq_of_lt inside }

pub pivot_round : (n p s : ℕ) → p < n → s < n → p < s → PivotAfter n p s (p + n)
pivot_round n p s inside also earlier = record {
  after = omega arith;
  before = omega arith;
  is = add-mod_right p n ∙ mod-eq_of_lt inside;
}

-- there is one such place
one_place : (n s x y : ℕ) → s ≤ x → s ≤ y → x < s + n → y < s + n → x % n ≡ y % n → x ≤ y → s < n → x ≡ y
one_place n s x y low also high within same order inside =
    ⊎_elim
    (λ (below : y < n).
    let first : x % n ≡ x = mod-eq_of_lt (omega arith) in
    let second : y % n ≡ y = mod-eq_of_lt below in
    omega arith)
    (λ (above : n ≤ y).
    let back : y - n + n ≡ y = omega arith in
    let second : y % n ≡ y - n = ap (λ z. z % n) (sym back) ∙ (add-mod_right (y - n) n ∙ mod-eq_of_lt (omega arith)) in
    ⊎_elim
    (λ (low_x : x < n).
    let first : x % n ≡ x = mod-eq_of_lt low_x in
    absurd (omega arith))
    (λ (high_x : n ≤ x).
    let back_x : x - n + n ≡ x = omega arith in
    let first : x % n ≡ x - n = ap (λ z. z % n) (sym back_x) ∙ (add-mod_right (x - n) n ∙ mod-eq_of_lt (omega arith)) in
    omega arith)
    (cases_lt x n))
    (cases_lt y n)

-- a step over it makes a start
pub start_from_step : (points deltas : List Pair) (p s over to : ℕ) → PivotAfter (length points) p s over → over < to → Reaches points deltas s to → IsStartPoint points deltas p s
start_from_step points deltas p s over to pivot past reach =
    let after = pivot.after in
    let place : s + (over - s) ≡ over = omega arith in
    inr (
      over - s,
      to - s,
      record {
        after = omega arith;
        before = omega arith;
        within = omega (arith, reach.within);
        over = ap (λ x. x % length points) place ∙ pivot.is;
        arc = spans_to points deltas s to (omega arith) reach.spans;
      },
    )

-- and a start that isn't the pivot has one
pub step_from_start : (points deltas : List Pair) (p s over : ℕ) → s < length points → PivotAfter (length points) p s over → (s ≡ p → ⊥) → ((to : ℕ) → over < to → to ≤ s + length points → Reaches points deltas s to → ⊥) → IsStartPoint points deltas p s → ⊥
step_from_start points deltas p s over inside pivot other none (inl same) = other same
step_from_start points deltas p s over inside pivot other none (inr found) =
    let n = length points in
    let passes = found.2 in
    let j = found.0 in
    let k = found.1 in
    let some : 0 < j = passes.after in
    let short : j < k = passes.before in
    let within : k ≤ n = passes.within in
    let same : (s + j) % n ≡ over % n = passes.over ∙ sym pivot.is in
    let low = pivot.after in
    let high = pivot.before in
    let place : s + j ≡ over = ⊎_elim
    (λ (less : s + j < over). one_place n s (s + j) over (omega arith) (omega arith) (omega arith) high same (omega arith) inside)
    (λ (not_less : over ≤ s + j). sym (one_place n s over (s + j) (omega arith) (omega arith) high (omega arith) (sym same) not_less inside))
    (cases_lt (s + j) over) in
    none (s + k) (omega arith) (omega arith) (record { ahead = omega arith; within = omega arith; spans = passes.arc })

-- whether a step leads farther than the pivot tells whether the place is a start
pub start_tested : (points deltas : List Pair) (p s over : ℕ) (end : Option ℕ) → s < length points → PivotAfter (length points) p s over → (s ≡ p → ⊥) → IsNextEnd points deltas s (over + 1) end → IsTrue (is_some end) ↔ IsStartPoint points deltas p s
start_tested points deltas p s over None inside pivot other none = (
  λ (tested : IsTrue false). absurd cc,
  λ start. absurd (step_from_start points deltas p s over inside pivot other (λ to past within reach. none to (omega arith) reach) start),
)
start_tested points deltas p s over (Some to) inside pivot other found = (
  λ _. start_from_step points deltas p s over to pivot (omega (arith, found.not_before)) found.reach,
  λ _. refl,
)

-- some row among one more
any_more : (P : Row → Type 0) (rows : List Row) (row : Row) → Any P rows → Any P (rows ++ row ∷ [])
any_more P rows row some =
    let inside = some.2 in
    (some.0, some.1, omega (arith, length_push rows row), get_or_append_left rows (row ∷ []) some.1 some.0 some.2 ∙ some.3, some.4)

any_split : (P : Row → Type 0) (rows : List Row) (row : Row) → Any P (rows ++ row ∷ []) → Any P rows ⊎ P row
any_split P rows row some =
    let inside = some.2 in
    ⊎_elim
    (λ (before : some.0 < length rows). inl (some.0, some.1, before, sym (get_or_append_left rows (row ∷ []) some.1 some.0 before) ∙ some.3, some.4))
    (λ (not_before : length rows ≤ some.0).
    let here : length rows ≡ some.0 = omega (arith, length_push rows row) in
    inr (subst P (sym some.3 ∙ get_or_push rows row some.1 some.0 here) some.4))
    (cases_lt some.0 (length rows))

-- members of a rising list are below its bound
rises_at : (low n : ℕ) (xs : List ℕ) (k : ℕ) → RisesFrom low n xs → k < length xs → get_or xs k 0 < n
rises_at low n [] k rises inside = absurd (omega arith)
rises_at low n (x ∷ xs) zero rises inside = rises.1
rises_at low n (x ∷ xs) (suc k) rises inside = rises_at (x + 1) n xs k rises.2 (omega arith)

-- so are the starts of rows
start_at : (n : ℕ) (rows : List Row) (k : ℕ) (d : Row) → RisesFrom 0 n (starts_of rows) → k < length rows → (get_or rows k d).start < n
start_at n rows k d rises inside =
    let at = get_or-map (λ (r : Row). r.start) rows k d 0 inside in
    let below = rises_at 0 n (starts_of rows) k rises (omega (arith, length-map rows (λ (r : Row). r.start))) in
    omega arith

start_below : (n : ℕ) (rows : List Row) (k : ℕ) (row : Row) → RisesFrom 0 n (starts_of rows) → k < length rows → get_or rows k row ≡ row → row.start < n
start_below n rows k row rises inside is = subst (λ (r : Row). r.start < n) is (start_at n rows k row rises inside)

-- no rows yet
pub no_rows : (points deltas : List Pair) (p : ℕ) → AreRowsTo points deltas p 0 []
no_rows points deltas p = record {
  rising = tt;
  starts = λ x below. absurd (omega arith);
  least = λ k d inside. absurd (omega arith);
}

-- the row of one start more
pub rows_push : (points deltas : List Pair) (p s : ℕ) (rows : List Row) (row : Row) → AreRowsTo points deltas p s rows → row.start ≡ s → IsStartPoint points deltas p s → IsLeastRow points deltas row.start row.bounds → AreRowsTo points deltas p (s + 1) (rows ++ row ∷ [])
rows_push points deltas p s rows row so_far here is_start least = record {
  rising =
      let starts : starts_of (rows ++ row ∷ []) ≡ starts_of rows ++ row.start ∷ [] = map-append (λ (r : Row). r.start) rows (row ∷ []) in
      let rises : RisesFrom 0 row.start (starts_of rows) = subst (λ x. RisesFrom 0 x (starts_of rows)) (sym here) so_far.rising in
      subst (λ xs. RisesFrom 0 (s + 1) xs) (sym starts) (rises_push 0 (s + 1) row.start (starts_of rows) (omega arith) (omega arith) rises);
  starts = λ x below. ⊎_elim
      (λ (before : x < s). (
        λ some. ⊎_elim
            (λ (earlier : Any (λ (r : Row). r.start ≡ x) rows). (so_far.starts x before).0 earlier)
            (λ (last : row.start ≡ x). absurd (omega arith))
            (any_split (λ (r : Row). r.start ≡ x) rows row some),
        λ start. any_more (λ (r : Row). r.start ≡ x) rows row ((so_far.starts x before).1 start),
      ))
      (λ (not_before : s ≤ x).
      let same : s ≡ x = omega arith in (
        λ some. subst (λ y. IsStartPoint points deltas p y) same is_start,
        λ start. Any-push (λ (r : Row). r.start ≡ x) rows row (here ∙ same),
      ))
      (cases_lt x s);
  least = All-push (λ (r : Row). IsLeastRow points deltas r.start r.bounds) rows row so_far.least least;
}

-- a point that is no start has none
pub rows_skip : (points deltas : List Pair) (p s : ℕ) (rows : List Row) → AreRowsTo points deltas p s rows → (IsStartPoint points deltas p s → ⊥) → AreRowsTo points deltas p (s + 1) rows
rows_skip points deltas p s rows so_far no_start = record {
  rising = rises_below 0 s (s + 1) (starts_of rows) (omega arith) so_far.rising;
  starts = λ x below. ⊎_elim
      (λ (before : x < s). so_far.starts x before)
      (λ (not_before : s ≤ x).
      let same : x ≡ s = omega arith in (
        λ some. absurd (let low = start_below s rows some.0 some.1 so_far.rising some.2 some.3 in let start = some.4 in omega arith),
        λ start. absurd (no_start (subst (λ y. IsStartPoint points deltas p y) same start)),
      ))
      (cases_lt x s);
  least = so_far.least;
}

-- the rows are right for sets of the fewest steps round
pub right_rows : (points deltas : List Pair) (p m : ℕ) (rows : List Row) → length deltas ≡ length points → AreRowsTo points deltas p (length points) rows → IsFewest (Reaches points deltas) (length points) m → AreRightRows points deltas m p rows
right_rows points deltas p m rows same all fewest = record {
  rising = all.rising;
  starts = all.starts;
  right = λ k d inside.
      let row : Row = get_or rows k d in
      let least : IsLeastRow points deltas row.start row.bounds = all.least k d inside in
      right_from_least points deltas m row.start row.bounds same least
      (fewest.least row.start (get_or row.bounds (length points) 0) (start_at (length points) rows k d all.rising inside) (least.leads (length points) (omega arith)));
  least = all.least;
}

-- and so they bound it
pub bounds_from_rows : (points deltas : List Pair) (p m : ℕ) (rows : List Row) → AreRightRows points deltas m p rows → Bounds points deltas m p
bounds_from_rows points deltas p m rows right s below start =
    let found = (right.starts s below).1 start in
    let row = found.1 in (
      row.bounds,
      subst (λ x. IsRightRow points deltas m x row.bounds) found.4
          (subst (λ (r : Row). IsRightRow points deltas m r.start r.bounds) found.3 (right.right found.0 row found.2)),
    )
