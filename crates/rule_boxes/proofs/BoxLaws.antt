-- Boxes that tell which rules hold are disjoint, and substitute as the rules do.
use Rattle.std.proofs.Common.{◌≡◌, refl, sym, ◌∙◌, ap, subst, inl, inr, ℕ, zero, suc, ◌+◌, ◌<◌, ◌≤◌, ℤ, Bool, false, List, [], ◌∷◌, length, get_or, drop, arith}
use Rattle.std.specs.Prelude.{◌&&◌, AllPairs}
use Rattle.std.proofs.lemmas.Bool.{cases_Bool, and_left, and_right}
use Rattle.std.proofs.lemmas.List.{drop_more}
use Rattle.rule_boxes.specs.declared.cell.Cell.{Cell}
use Rattle.rule_boxes.specs.declared.condition.Condition.{Condition}
use Rattle.rule_boxes.specs.Conditions.{rule_holds}
use Rattle.rule_boxes.specs.Cells.{has_location, lists_at, holding_from, holding, some_list}
use Rattle.rule_boxes.specs.Substitution.{replaced, ruled, looked_up, first_list}
use Rattle.rule_boxes.specs.Laws.{AreDisjoint, SubstitutesAsRuled}

none_at : (cells : List Cell) (at : List ℤ) (j : ℕ) (d : Cell) → length (lists_at cells at) ≤ 0 → j < length cells → has_location (get_or cells j d) at ≡ false
none_at [] at j d none here = absurd (omega arith)
none_at (cell ∷ cells) at j d none here = elim (cases_Bool (has_location cell at)) [
  | inl is ↦ let more : suc (length (lists_at cells at)) ≤ 0 = rw is at none in absurd (omega arith)
  | inr isnt ↦ let later : length (lists_at cells at) ≤ 0 = rw isnt at none in which j here isnt (λ k within. none_at cells at k d later within)
] where
  which : (k : ℕ) → k < length (cell ∷ cells) → has_location cell at ≡ false → ((i : ℕ) → i < length cells → has_location (get_or cells i d) at ≡ false) → has_location (get_or (cell ∷ cells) k d) at ≡ false
  which zero within isnt later = isnt
  which (suc k) within isnt later = later k (omega arith)

one_at : (cells : List Cell) (at : List ℤ) → length (lists_at cells at) ≤ 1 → AllPairs (λ a b. (has_location a at && has_location b at) ≡ false) cells
one_at [] at few = λ i j d below here. absurd (omega arith)
one_at (cell ∷ cells) at few = elim (cases_Bool (has_location cell at)) [
  | inl is ↦
      let more : suc (length (lists_at cells at)) ≤ 1 = rw is at few in
      let later = one_at cells at (omega arith) in
      λ i j d below here. pair i j d below here later (λ k within. and_right (has_location cell at) (has_location (get_or cells k d) at) (none_at cells at k d (omega arith) within))
  | inr isnt ↦
      let later = one_at cells at (rw isnt at few) in
      λ i j d below here. pair i j d below here later (λ k within. and_left (has_location cell at) (has_location (get_or cells k d) at) isnt)
] where
  pair : (i j : ℕ) (d : Cell) → i < j → j < length (cell ∷ cells) → AllPairs (λ a b. (has_location a at && has_location b at) ≡ false) cells
      → ((k : ℕ) → k < length cells → (has_location cell at && has_location (get_or cells k d) at) ≡ false) → (has_location (get_or (cell ∷ cells) i d) at && has_location (get_or (cell ∷ cells) j d) at) ≡ false
  pair i zero d below here later first = absurd (omega arith)
  pair zero (suc j) d below here later first = first j (omega arith)
  pair (suc i) (suc j) d below here later first = later i j d (omega arith) (omega arith)

some_few : (numbers : List ℕ) → length (some_list numbers) ≤ 1
some_few [] = omega arith
some_few (n ∷ numbers) = omega arith

-- no location is in two of the boxes
pub are_disjoint : AreDisjoint
are_disjoint axes rules cells are at place =
    one_at cells at (subst (λ (l : List (List ℕ)). length l ≤ 1) (sym (are.lists at place)) (some_few (holding rules at)))

-- the rules from a number on, with their own pairs
rules_from : {A : Type 0} (same : A → A → Bool) (rules : List (List (List Condition))) (number : ℕ) (substitutions : List (List (A × A))) (at : List ℤ) (glyph : A) → number + length rules ≡ length substitutions
    → looked_up same substitutions (holding_from number rules at) glyph ≡ ruled same rules (drop number substitutions) at glyph
rules_from same [] number substitutions at glyph count = refl
rules_from same (rule ∷ rules) number substitutions at glyph count =
    let pairs = get_or substitutions number [] in
    let rest = rules_from same rules (number + 1) substitutions at in
    let split : drop number substitutions ≡ pairs ∷ drop (number + 1) substitutions = drop_more substitutions number [] (omega arith) in
    elim (cases_Bool (rule_holds rule at)) [
      | inl is ↦ rw (is, split) (rw is (rest (replaced same pairs glyph) (omega arith)))
      | inr isnt ↦ rw (isnt, split) (rw isnt (rest glyph (omega arith)))
    ]

first_some : (numbers : List ℕ) → first_list (some_list numbers) ≡ numbers
first_some [] = refl
first_some (n ∷ numbers) = refl

-- the boxes make of a glyph what the rules do, one after another
pub substituted_is_ruled : {A : Type 0} → SubstitutesAsRuled A
substituted_is_ruled same rules substitutions cells at glyph count told =
    ap (λ (lists : List (List ℕ)). looked_up same substitutions (first_list lists) glyph) told
    ∙ (ap (λ (numbers : List ℕ). looked_up same substitutions numbers glyph) (first_some (holding rules at)) ∙ rules_from same rules 0 substitutions at glyph (omega arith))
