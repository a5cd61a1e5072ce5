-- Marks tell which values pass a test, and how many do.
use Rattle.std.proofs.Common.{◌≡◌, ◌≢◌, refl, sym, ◌∙◌, ap, inl, inr, ℕ, zero, suc, ◌+◌, ◌<◌, ℤ, pos, ◌+ℤ◌, ◌≤ℤ◌, ◌<ℤ◌, ◌⊎◌, Bool, true, false, List, [], ◌∷◌, length, set, replicate, cond, arith}
use Rattle.std.specs.Prelude.{◌||◌, ◌&&◌, nat_eq, int_le}
use Rattle.std.specs.List.{count_by}
use Rattle.std.specs.Ordering.{int_eq}
use Rattle.std.proofs.lemmas.Int.{ints}
use Rattle.std.proofs.lemmas.Bool.{false_from_ne_true, and_left}
use Rattle.std.proofs.lemmas.Bool.Decides.{Decides-int_eq}
use Rattle.std.proofs.lemmas.List.Sums.{sum_by-cons}
use Rattle.rule_boxes.specs.declared.condition.Condition.{Condition}
use Rattle.rule_boxes.specs.Grid.{cuts_after, turns_at, is_cut, least, steps}
use Rattle.rule_boxes.specs.Marks.{marked_by}

pub length_marked : (test : ℤ → Bool) (from : ℤ) (marks : List Bool) → length (marked_by test from marks) ≡ length marks
length_marked test from [] = refl
length_marked test from (mark ∷ marks) = ap suc (length_marked test (from +ℤ pos 1) marks)

or_false : (b : Bool) → (b || false) ≡ b
or_false true = refl
or_false false = refl

or_true : (b : Bool) → true ≡ (b || true)
or_true true = refl
or_true false = refl

or_assoc : (a b c : Bool) → ((a || b) || c) ≡ (a || (b || c))
or_assoc true b c = refl
or_assoc false b c = refl

-- where no value passes, the marks stay
pub unmarked : (test : ℤ → Bool) (from : ℤ) (marks : List Bool) → ((k : ℕ) (value : ℤ) → k < length marks → value ≡ from +ℤ pos (k + 1) → test value ≡ false) → marked_by test from marks ≡ marks
unmarked test from [] none = refl
unmarked test from (mark ∷ marks) none =
    let first : test (from +ℤ pos 1) ≡ false = none 0 (from +ℤ pos 1) (omega arith) refl in
    let rest = unmarked test (from +ℤ pos 1) marks (λ k value here is. none (suc k) value (omega arith) (omega (arith, ints))) in
    λ i. ((ap (λ (b : Bool). mark || b) first ∙ or_false mark) i) ∷ rest i

other_value : (a b : ℤ) → a ≢ b → int_eq a b ≡ false
other_value a b other = false_from_ne_true (int_eq a b) (λ same. other ((Decides-int_eq a b).0 same))

-- one value's mark
pub set_marked : (value from : ℤ) (k : ℕ) (marks : List Bool) → value ≡ from +ℤ pos (k + 1) → k < length marks → set marks k true ≡ marked_by (λ other. int_eq other value) from marks
set_marked value from k [] is here = absurd (omega arith)
set_marked value from zero (mark ∷ marks) is here =
    let same : int_eq (from +ℤ pos 1) value ≡ true = (Decides-int_eq (from +ℤ pos 1) value).1 (sym is) in
    let rest = unmarked (λ other. int_eq other value) (from +ℤ pos 1) marks (λ k other _ at. other_value other value (λ e. omega (arith, ints))) in
    λ i. ((or_true mark ∙ ap (λ (b : Bool). mark || b) (sym same)) i) ∷ sym rest i
set_marked value from (suc k) (mark ∷ marks) is here =
    let not_here : int_eq (from +ℤ pos 1) value ≡ false = other_value (from +ℤ pos 1) value (λ e. omega (arith, ints)) in
    let rest = set_marked value (from +ℤ pos 1) k marks (omega (arith, ints)) (omega arith) in
    λ i. ((sym (or_false mark) ∙ ap (λ (b : Bool). mark || b) (sym not_here)) i) ∷ rest i

-- a value beyond the marks
pub unmarked_value : (value : ℤ) (marks : List Bool) → length marks ≡ steps → (value ≤ℤ least) ⊎ (pos 16384 <ℤ value) → marks ≡ marked_by (λ other. int_eq other value) least marks
unmarked_value value marks count (inl low) = sym (unmarked (λ other. int_eq other value) least marks (λ k other here at. other_value other value (λ e. omega (arith, ints))))
unmarked_value value marks count (inr high) = sym (unmarked (λ other. int_eq other value) least marks (λ k other here at. other_value other value (λ e. omega (arith, ints))))

-- marks of one test and of another
pub marked_twice : (a b : ℤ → Bool) (from : ℤ) (marks : List Bool) → marked_by b from (marked_by a from marks) ≡ marked_by (λ value. a value || b value) from marks
marked_twice a b from [] = refl
marked_twice a b from (mark ∷ marks) =
    λ i. (or_assoc mark (a (from +ℤ pos 1)) (b (from +ℤ pos 1)) i) ∷ marked_twice a b (from +ℤ pos 1) marks i

-- tests that agree mark alike
marked_alike : (a b : ℤ → Bool) (from : ℤ) (marks : List Bool) → ((value : ℤ) → a value ≡ b value) → marked_by a from marks ≡ marked_by b from marks
marked_alike a b from [] alike = refl
marked_alike a b from (mark ∷ marks) alike = λ i. (mark || alike (from +ℤ pos 1) i) ∷ marked_alike a b (from +ℤ pos 1) marks alike i

-- a condition on the axis that some value meets, and one that isn't or that no value meets
pub condition_marked : (condition : Condition) (axis : ℕ) (from : ℤ) (marks : List Bool) → nat_eq condition.axis axis ≡ true → int_le condition.low condition.high ≡ true
    → marked_by (λ other. int_eq other (condition.high +ℤ pos 1)) from (marked_by (λ other. int_eq other condition.low) from marks) ≡ marked_by (λ value. turns_at axis value condition) from marks
condition_marked condition axis from marks on_axis some =
    marked_twice (λ other. int_eq other condition.low) (λ other. int_eq other (condition.high +ℤ pos 1)) from marks
    ∙ marked_alike (λ value. int_eq value condition.low || int_eq value (condition.high +ℤ pos 1)) (λ value. turns_at axis value condition) from marks
    (λ value k. (sym on_axis k && sym some k) && (int_eq value condition.low || int_eq value (condition.high +ℤ pos 1)))

pub condition_unmarked : (condition : Condition) (axis : ℕ) (from : ℤ) (marks : List Bool) → (nat_eq condition.axis axis && int_le condition.low condition.high) ≡ false
    → marks ≡ marked_by (λ value. turns_at axis value condition) from marks
condition_unmarked condition axis from marks never =
    sym (unmarked (λ value. turns_at axis value condition) from marks
    (λ k value here at. and_left (nat_eq condition.axis axis && int_le condition.low condition.high) (int_eq value condition.low || int_eq value (condition.high +ℤ pos 1)) never))

-- as many marks as cuts
pub counted : (test : ℤ → Bool) (from : ℤ) (count : ℕ) → count_by (λ mark. mark) (marked_by test from (replicate count false)) ≡ cuts_after test from count
unfolding cuts_after
counted test from zero = refl
counted test from (suc count) =
    sum_by-cons (λ (mark : Bool). cond mark 1 0) (test (from +ℤ pos 1)) (marked_by test (from +ℤ pos 1) (replicate count false))
    ∙ ap (λ (n : ℕ). cond (test (from +ℤ pos 1)) 1 0 + n) (counted test (from +ℤ pos 1) count)

-- the marks of an axis of which no value is marked yet
pub cuts_counted : (conditions : List Condition) (axis size : ℕ) (marks : List Bool) → marks ≡ replicate size false → count_by (λ mark. mark) (marked_by (is_cut conditions axis) least marks) ≡ cuts_after (is_cut conditions axis) least size
cuts_counted conditions axis size marks blank =
    ap (λ (l : List Bool). count_by (λ mark. mark) (marked_by (is_cut conditions axis) least l)) blank ∙ counted (is_cut conditions axis) least size

-- the marks after one condition more
pub marked_next : (condition : Condition) (conditions : List Condition) (axis : ℕ) (from : ℤ) (marks : List Bool)
    → marked_by (is_cut conditions axis) from (marked_by (λ value. turns_at axis value condition) from marks) ≡ marked_by (is_cut (condition ∷ conditions) axis) from marks
marked_next condition conditions axis from marks = marked_twice (λ value. turns_at axis value condition) (is_cut conditions axis) from marks
