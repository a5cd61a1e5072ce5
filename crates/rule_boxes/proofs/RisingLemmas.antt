-- The numbers of the rules that hold rise, and the numbers of flags tell the flags.
use Rattle.std.proofs.Common.{◌≡◌, refl, sym, ap, subst, inl, inr, ℕ, zero, suc, ◌+◌, ◌<◌, ◌≤◌, ℤ, Bool, true, false, List, [], ◌∷◌, length, get_or, arith}
use Rattle.std.specs.List.{All, AllByRecursion}
use Rattle.std.specs.List.Sorted.{IsStrictlyIncreasing}
use Rattle.std.proofs.lemmas.Bool.{cases_Bool}
use Rattle.std.proofs.lemmas.List.Elements.{All-from_recursion}
use Rattle.rule_boxes.specs.declared.condition.Condition.{Condition}
use Rattle.rule_boxes.specs.Conditions.{rule_holds}
use Rattle.rule_boxes.specs.Cells.{holding_from, holding}
use Rattle.rule_boxes.specs.Merging.{numbers_from}

pub each_at : {X : Type 0} (P : X → Type 0) (xs : List X) (k : ℕ) (d : X) → AllByRecursion P xs → k < length xs → P (get_or xs k d)
each_at P [] k d each here = absurd (omega arith)
each_at P (x ∷ xs) zero d each here = each.0
each_at P (x ∷ xs) (suc k) d each here = each_at P xs k d each.1 (omega arith)

pub each_weaker : {X : Type 0} (P Q : X → Type 0) (xs : List X) → ((x : X) → P x → Q x) → AllByRecursion P xs → AllByRecursion Q xs
each_weaker P Q [] weaker each = tt
each_weaker P Q (x ∷ xs) weaker each = (weaker x each.0, each_weaker P Q xs weaker each.1)

-- each number is below all later ones
abbrev Rises : List ℕ → Type 0
Rises [] = Unit {0}
Rises (n ∷ ns) = AllByRecursion (λ m. n < m) ns × Rises ns

increasing : (ns : List ℕ) (k j : ℕ) → Rises ns → j ≡ suc k → j < length ns → get_or ns k 0 < get_or ns j 0
increasing [] k j rises next here = absurd (omega arith)
increasing (n ∷ ns) zero zero rises next here = absurd (omega arith)
increasing (n ∷ ns) zero (suc j) rises next here = each_at (λ m. n < m) ns j 0 rises.0 (omega arith)
increasing (n ∷ ns) (suc k) zero rises next here = absurd (omega arith)
increasing (n ∷ ns) (suc k) (suc j) rises next here = increasing ns k j rises.1 (omega arith) (omega arith)

holding_bounds : (number count : ℕ) (rules : List (List (List Condition))) (at : List ℤ) → length rules ≡ count → AllByRecursion (λ m. (number ≤ m) × (m < number + count)) (holding_from number rules at)
holding_bounds number count [] at is = tt
holding_bounds number zero (rule ∷ rules) at is = absurd (omega arith)
holding_bounds number (suc count) (rule ∷ rules) at is =
    let wider : AllByRecursion (λ m. (number ≤ m) × (m < number + suc count)) (holding_from (number + 1) rules at) =
    each_weaker (λ m. (number + 1 ≤ m) × (m < (number + 1) + count)) (λ m. (number ≤ m) × (m < number + suc count)) (holding_from (number + 1) rules at) (λ m h. (omega (arith, h.0), omega (arith, h.1))) (holding_bounds (number + 1) count rules at (omega arith)) in
    elim (cases_Bool (rule_holds rule at)) [ inl is ↦ rw is ((omega arith, omega arith), wider) | inr isnt ↦ rw isnt wider ]

holding_rises : (number : ℕ) (rules : List (List (List Condition))) (at : List ℤ) → Rises (holding_from number rules at)
holding_rises number [] at = tt
holding_rises number (rule ∷ rules) at =
    let later = holding_rises (number + 1) rules at in
    let above : AllByRecursion (λ m. number < m) (holding_from (number + 1) rules at) =
    each_weaker (λ m. (number + 1 ≤ m) × (m < (number + 1) + length rules)) (λ m. number < m) (holding_from (number + 1) rules at) (λ m h. omega (arith, h.0)) (holding_bounds (number + 1) (length rules) rules at refl) in
    elim (cases_Bool (rule_holds rule at)) [ inl is ↦ rw is (above, later) | inr isnt ↦ rw isnt later ]

pub holding_increasing : (rules : List (List (List Condition))) (at : List ℤ) → IsStrictlyIncreasing (holding rules at)
holding_increasing rules at = λ k here. increasing (holding rules at) k (k + 1) (holding_rises 0 rules at) (omega arith) here

pub holding_known : (rules : List (List (List Condition))) (at : List ℤ) → All (λ number. number < length rules) (holding rules at)
holding_known rules at =
    All-from_recursion (λ number. number < length rules) (holding rules at)
    (each_weaker (λ m. (0 ≤ m) × (m < 0 + length rules)) (λ m. m < length rules) (holding rules at) (λ m h. omega (arith, h.1)) (holding_bounds 0 (length rules) rules at refl))

numbers_above : (number : ℕ) (flags : List Bool) → AllByRecursion (λ m. number ≤ m) (numbers_from number flags)
numbers_above number [] = tt
numbers_above number (true ∷ flags) = (omega arith, each_weaker (λ m. number + 1 ≤ m) (λ m. number ≤ m) (numbers_from (number + 1) flags) (λ m h. omega arith) (numbers_above (number + 1) flags))
numbers_above number (false ∷ flags) = each_weaker (λ m. number + 1 ≤ m) (λ m. number ≤ m) (numbers_from (number + 1) flags) (λ m h. omega arith) (numbers_above (number + 1) flags)

-- a number is none of those of later flags
not_later : (number : ℕ) (flags : List Bool) (ns : List ℕ) → number ∷ ns ≡ numbers_from (number + 1) flags → ⊥
not_later number flags ns same =
    let each : AllByRecursion (λ m. number + 1 ≤ m) (number ∷ ns) = subst (λ (l : List ℕ). AllByRecursion (λ m. number + 1 ≤ m) l) (sym same) (numbers_above (number + 1) flags) in
    let first : number + 1 ≤ number = each.0 in
    omega arith

-- as many flags with the same numbers are the same
pub flags_told : (number : ℕ) (a b : List Bool) → length a ≡ length b → numbers_from number a ≡ numbers_from number b → a ≡ b
flags_told number [] [] long same = refl
flags_told number [] (x ∷ b) long same = absurd (omega arith)
flags_told number (x ∷ a) [] long same = absurd (omega arith)
flags_told number (true ∷ a) (true ∷ b) long same =
    let later : numbers_from (number + 1) a ≡ numbers_from (number + 1) b = cc in
    ap (λ (l : List Bool). true ∷ l) (flags_told (number + 1) a b (omega arith) later)
flags_told number (true ∷ a) (false ∷ b) long same = absurd (not_later number b (numbers_from (number + 1) a) same)
flags_told number (false ∷ a) (true ∷ b) long same = absurd (not_later number a (numbers_from (number + 1) b) (sym same))
flags_told number (false ∷ a) (false ∷ b) long same = ap (λ (l : List Bool). false ∷ l) (flags_told (number + 1) a b (omega arith) same)
