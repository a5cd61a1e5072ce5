-- A rule has as many sets as are counted before they are read.
use Rattle.std.proofs.Common.{◌≡◌, ℕ, ◌+◌, Bool, true, false, List, [], ◌∷◌, length, filter, codes, Some, None, Ok, Err, refl, sym, ◌∙◌, subst, arith, suc, ◌⊎◌, inl, inr}
use Rattle.std.specs.Prelude.{IfOk, Result, find}
use Rattle.std.proofs.lemmas.List.{length_push}
use Rattle.std.proofs.lemmas.Slice.Eq.{bytes_eq-Decides}
use Rattle.attributes.proofs.Readings.{after_any, then_ok}
use Rattle.basics.specs.Reading.{Gives, in_turn}
use Rattle.basics.specs.declared.fault.Spot.{Spot}
use Rattle.basics.specs.declared.fault.Stop.{Stop}
use Rattle.markup_rules.specs.Tree.{Tree, children_of, is_named, name_of}
use Rattle.design_axes.specs.declared.axis.Axis.{Axis}
use Rattle.rule_boxes.specs.declared.condition.Condition.{Condition}
use Rattle.designspace.specs.Conditions.{condition_of, set_of}
use Rattle.designspace.specs.Rules.{child_of, direct_first, nothing_sorted, set_count, sets_of, with_direct}
use Rattle.designspace.specs.declared.sets.Sorted.{Sorted}

abbrev one_if : Bool → ℕ
one_if true = 1
one_if false = 0

abbrev is_condition : Tree → Bool
is_condition tree = is_named (codes "condition") tree

abbrev is_set : Tree → Bool
is_set tree = is_named (codes "conditionset") tree

no_both : {b : Bool} → b ≡ true → b ≡ false → ⊥
no_both holds fails = cc

zero_suc : (n : ℕ) → 0 ≡ suc n → ⊥
zero_suc n same = omega arith

-- an element has one name
no_set : (tree : Tree) → is_condition tree ≡ true → is_set tree ≡ false
no_set tree named =
    let same : name_of tree ≡ codes "condition" = (bytes_eq-Decides (name_of tree) (codes "condition")).0 named in
    rw same refl

-- ---- one child

-- the sorted conditions with so many more
record Grows (before : Sorted) (conditions own : ℕ) (after : Sorted) : Type 0 where
  direct : length after.direct ≡ length before.direct + conditions
  sets : length after.sets ≡ length before.sets + own

child_grows : (axes : List Axis) (sorted : Sorted) (tree : Tree) (c s : Bool) → is_condition tree ≡ c → is_set tree ≡ s → IfOk (child_of axes sorted tree) (Grows sorted (one_if c) (one_if s))
unfolding child_of
child_grows axes sorted tree true true ec es = absurd (no_both es (no_set tree ec))
child_grows axes sorted tree true false ec es =
    rw ec (after_any (Grows sorted 1 0) (condition_of axes tree) _ (λ condition. record { direct = length_push sorted.direct condition; sets = omega arith }))
child_grows axes sorted tree false true ec es =
    rw (ec, es) (after_any (Grows sorted 0 1) (set_of axes tree) _ (λ set. record { direct = omega arith; sets = length_push sorted.sets set }))
child_grows axes sorted tree false false ec es = rw (ec, es) (record { direct = omega arith; sets = omega arith })

-- ---- all children

weaker : {A F : Type 0} (P Q : A → Type 0) (r : Result A F) → IfOk r P → ((x : A) → P x → Q x) → IfOk r Q
weaker P Q (Ok x) p less = less x p
weaker P Q (Err e) p less = tt

filter_by : (p : Tree → Bool) (t : Tree) (ts : List Tree) (b : Bool) → p t ≡ b → length (filter p (t ∷ ts)) ≡ one_if b + length (filter p ts)
filter_by p t ts true e = rw e (omega arith)
filter_by p t ts false e = rw e (omega arith)

children_grow : (axes : List Axis) (sorted : Sorted) (ts : List Tree) → IfOk (in_turn (child_of axes) sorted ts) (Grows sorted (length (filter is_condition ts)) (length (filter is_set ts)))
children_grow axes sorted [] = record { direct = omega arith; sets = omega arith }
children_grow axes sorted (t ∷ ts) =
    then_ok (Grows sorted (one_if (is_condition t)) (one_if (is_set t))) (Grows sorted (length (filter is_condition (t ∷ ts))) (length (filter is_set (t ∷ ts)))) (child_of axes sorted t) _
    (child_grows axes sorted t (is_condition t) (is_set t) refl refl)
    (λ next one. weaker (Grows next (length (filter is_condition ts)) (length (filter is_set ts))) (Grows sorted (length (filter is_condition (t ∷ ts))) (length (filter is_set (t ∷ ts)))) _ (children_grow axes next ts)
    (λ after more.
    let conditions = filter_by is_condition t ts (is_condition t) refl in
    let sets = filter_by is_set t ts (is_set t) refl in
    let first = one.direct in
    let second = one.sets in
    let third = more.direct in
    let fourth = more.sets in
    record { direct = omega arith; sets = omega arith }))

-- ---- the direct conditions as one set

-- nothing passes, or a first one does
abbrev IsFound : (Tree → Bool) → List Tree → Type 0
IsFound p ts = ((length (filter p ts) ≡ 0) × (find p ts ≡ None)) ⊎ ((m : ℕ) × (length (filter p ts) ≡ suc m) × (t : Tree) × (find p ts ≡ Some t))

found_by : (p : Tree → Bool) (t : Tree) (ts : List Tree) (b : Bool) → p t ≡ b → IsFound p ts → IsFound p (t ∷ ts)
found_by p t ts true e later = inr (length (filter p ts), rw e refl, t, rw e refl)
found_by p t ts false e later = rw e later

found : (p : Tree → Bool) (ts : List Tree) → IsFound p ts
found p [] = inl (refl, refl)
found p (t ∷ ts) = found_by p t ts (p t) refl (found p ts)

direct_counts : (direct : List Condition) (sets : List (List Condition)) (ts : List Tree) → length direct ≡ length (filter is_condition ts) → IsFound is_condition ts → length (direct_first direct sets) ≡ with_direct (length sets) (find is_condition ts)
direct_counts [] sets ts same (inl (none, absent)) = rw absent refl
direct_counts [] sets ts same (inr (m, some, t, there)) = absurd (zero_suc m (same ∙ some))
direct_counts (c ∷ cs) sets ts same (inl (none, absent)) = absurd (zero_suc (length cs) (sym none ∙ (sym same ∙ omega arith)))
direct_counts (c ∷ cs) sets ts same (inr (m, some, t, there)) = rw there (omega arith)

-- ---- the sets of a rule

pub sets_counted : (axes : List Axis) (tree : Tree) → IfOk (sets_of axes tree) (λ sets. length sets ≡ set_count tree)
unfolding sets_of set_count
sets_counted axes tree =
    then_ok (Grows nothing_sorted (length (filter is_condition (children_of tree))) (length (filter is_set (children_of tree)))) (λ sets. length sets ≡ set_count tree) (in_turn (child_of axes) nothing_sorted (children_of tree)) _
    (children_grow axes nothing_sorted (children_of tree))
    (λ sorted grown.
    let direct = direct_counts sorted.direct sorted.sets (children_of tree) (grown.direct ∙ omega arith) (found is_condition (children_of tree)) in
    let sets : length sorted.sets ≡ length (filter is_set (children_of tree)) = grown.sets ∙ omega arith in
    rw sets at direct)

pub sets_read : (axes : List Axis) (tree : Tree) (result : Result (List (List Condition)) Stop) → Gives (λ sets. sets) result (sets_of axes tree) → IfOk result (λ sets. length sets ≡ set_count tree)
sets_read axes tree (Ok sets) gives = let P : Result (List (List Condition)) Spot → Type 0 = λ r. IfOk r (λ sets. length sets ≡ set_count tree) in subst P gives (sets_counted axes tree)
sets_read axes tree (Err stop) gives = tt
