-- A table of arcs, entry by entry.
use Rattle.std.proofs.Common.{◌≡◌, ℕ, ◌+◌, ◌-◌, ◌*◌, ◌/◌, ◌%◌, ◌<◌, ◌≤◌, ◌⊎◌, ◌↔◌, List, length, inl, inr, ap, ◌∙◌, sym, subst, ⊎_elim, arith}
use Rattle.std.proofs.lemmas.Bool.{cases_lt}
use Rattle.std.proofs.lemmas.Nat.{mod-mul-add, div-mul-add, mul-add-lt}
use Rattle.fixpoint.specs.declared.plane.Pair.{Pair}
use Rattle.iup.specs.Arcs.{Arc, Spans}
use Rattle.iup.specs.Bounds.{Reaches}
use Rattle.iup.proofs.ArcLemmas.{step_from_arc, arc_from_place}
use Rattle.iup_optimal.specs.BitSets.{Has}
use Rattle.iup_optimal.specs.Tables.{TellsArcs}

-- one entry more, of an arc that holds or of one that doesn't
pub tells_insert : (points deltas : List Pair) (old new : List ℕ) (e : ℕ) → TellsArcs points deltas e old → Arc points deltas (e / length points) (e % length points + 1) → ((m : ℕ) → Has new m ↔ (Has old m ⊎ (m ≡ e))) → TellsArcs points deltas (e + 1) new
tells_insert points deltas old new e told arc has = record {
  tells = λ m inside. ⊎_elim
      (λ (before : m < e). (
        λ there. ⊎_elim (λ earlier. (told.tells m before).0 earlier) (λ (here : m ≡ e). absurd (omega arith)) ((has m).0 there),
        λ holds. (has m).1 (inl ((told.tells m before).1 holds)),
      ))
      (λ (not_before : e ≤ m).
      let here : m ≡ e = omega arith in
      (λ _. subst (λ (k : ℕ). Arc points deltas (k / length points) (k % length points + 1)) (sym here) arc, λ _. (has m).1 (inr here)))
      (cases_lt m e);
  none = λ m after there. ⊎_elim (λ earlier. told.none m (omega arith) earlier) (λ (here : m ≡ e). omega arith) ((has m).0 there);
}

pub tells_skip : (points deltas : List Pair) (arcs : List ℕ) (e : ℕ) → TellsArcs points deltas e arcs → (Arc points deltas (e / length points) (e % length points + 1) → ⊥) → TellsArcs points deltas (e + 1) arcs
tells_skip points deltas arcs e told no_arc = record {
  tells = λ m inside. ⊎_elim
      (λ (before : m < e). told.tells m before)
      (λ (not_before : e ≤ m).
      let here : m ≡ e = omega arith in
      (λ there. absurd (told.none m not_before there), λ holds. absurd (no_arc (subst (λ (k : ℕ). Arc points deltas (k / length points) (k % length points + 1)) here holds))))
      (cases_lt m e);
  none = λ m after there. told.none m (omega arith) there;
}

-- the point and the length of an entry
pub entry_is : (points deltas : List Pair) (from to e : ℕ) → from < to → to ≤ from + length points → e ≡ from * length points + (to - from - 1) → (Arc points deltas (e / length points) (e % length points + 1) ↔ Spans points deltas from to)
entry_is points deltas from to e ahead within place =
    let n = length points in
    let k : ℕ = to - from - 1 in
    let short : k < n = omega arith in
    let row : e / n ≡ from = ap (λ m. m / n) place ∙ div-mul-add from n k short in
    let column : e % n ≡ k = ap (λ m. m % n) place ∙ mod-mul-add from n k short in
    let end : from + (k + 1) ≡ to = omega arith in
    rw (row, column, end) (λ arc. arc, λ spans. spans)

-- the entries of a point from one on, where no arc is as long
pub tells_rest : (points deltas : List Pair) (arcs : List ℕ) (from to e : ℕ) → from < to → to ≤ from + length points + 1 → e ≡ from * length points + (to - from - 1) → TellsArcs points deltas e arcs → ((end : ℕ) → to ≤ end → Spans points deltas from end → ⊥) → TellsArcs points deltas ((from + 1) * length points) arcs
tells_rest points deltas arcs from to e ahead within place told closed = record {
  tells = λ m inside. ⊎_elim
      (λ (before : m < e). told.tells m before)
      (λ (not_before : e ≤ m).
      let n = length points in
      let end : ℕ = from + (m - from * n) + 1 in
      let at : m ≡ from * n + (end - from - 1) = omega arith in (
        λ there. absurd (told.none m not_before there),
        λ holds. absurd (closed end (omega arith) ((entry_is points deltas from end m (omega arith) (omega arith) at).0 holds)),
      ))
      (cases_lt m e);
  none = λ m after there. told.none m (omega arith) there;
}

-- the entry of a step
pub entry_tells : (points deltas : List Pair) (arcs : List ℕ) (from to : ℕ) → 0 < length points → length deltas ≡ length points → TellsArcs points deltas (length points * length points) arcs → from < to → to ≤ from + length points → Has arcs (from % length points * length points + (to - from - 1)) ↔ Reaches points deltas from to
entry_tells points deltas arcs from to some same told ahead within =
    let n = length points in
    let k = to - from - 1 in
    let row = from % n in
    let low : row < n = omega arith in
    let short : k < n = omega arith in
    let long : k + 1 ≡ to - from = omega arith in
    let entry = told.tells (row * n + k) (omega (arith, mul-add-lt row n k n low short)) in
    let of_row : (row * n + k) / n ≡ row = div-mul-add row n k short in
    let of_length : (row * n + k) % n ≡ k = mod-mul-add row n k short in
    let tells = rw (of_row, of_length, long) at entry in (
      λ holds. subst (λ x. Reaches points deltas from x) (omega arith) (step_from_arc points deltas from (to - from) same (omega arith) (omega arith) (tells.0 holds)),
      λ reach. tells.1 (arc_from_place points deltas from to same reach),
    )
