-- Where the grid is small, the overlaid rules have few zones.
use Rattle.std.proofs.Common.{◌≡◌, refl, sym, ◌∙◌, ap, inl, inr, ℕ, zero, suc, ◌+◌, ◌*◌, ◌<◌, ◌≤◌, ℤ, pos, neg_ℤ, ◌-◌, ◌+ℤ◌, false, List, [], ◌∷◌, length, replicate, Some, None, arith}
use Rattle.std.specs.Prelude.{nat_lt, nat_eq, ◌&&◌, ◌||◌, int_le}
use Rattle.std.specs.List.{AllByRecursion}
use Rattle.std.specs.Ordering.{int_eq}
use Rattle.std.proofs.Math.Nat.{mul-one, one-mul, mul_assoc}
use Rattle.std.proofs.lemmas.Bool.{cases_Bool, ltb-false, and_left, ne_eqb, or_from}
use Rattle.rule_boxes.specs.declared.condition.Condition.{Condition}
use Rattle.rule_boxes.specs.Areas.{whole_axis, whole}
use Rattle.rule_boxes.specs.Grid.{conditions_of, turns_at, is_cut, intervals_on, first_above, grid_above}
use Rattle.rule_boxes.specs.Overlay.{bare, overlaid}
use Rattle.rule_boxes.proofs.FineLemmas.{fine_bare}
use Rattle.rule_boxes.proofs.CutLemmas.{share, share_is, cuts_none}
use Rattle.rule_boxes.proofs.WeightLemmas.{weight_from, laid_rules_weight, length-le-weights}
use Rattle.rule_boxes.proofs.AlignedLemmas.{all_cut, aligned_rules}

-- the intervals of an axis are those that its cuts make of the whole axis
intervals_share : (conditions : List Condition) (axis : ℕ) → intervals_on conditions axis ≡ share (is_cut conditions axis) whole_axis
unfolding intervals_on
intervals_share conditions axis = sym (share_is (is_cut conditions axis) whole_axis)

no_cut : (axes axis : ℕ) (value : ℤ) (conditions : List Condition) → axes ≤ axis → AllByRecursion (λ condition. condition.axis < axes) conditions → is_cut conditions axis value ≡ false
no_cut axes axis value [] beyond on_axes = refl
no_cut axes axis value (c ∷ cs) beyond on_axes =
    let below : c.axis < axes = on_axes.0 in
    let other : nat_eq c.axis axis ≡ false = ne_eqb c.axis axis (λ same. omega arith) in
    or_from (turns_at axis value c) (is_cut cs axis value)
    (and_left (nat_eq c.axis axis && int_le c.low c.high) (int_eq value c.low || int_eq value (c.high +ℤ pos 1)) (and_left (nat_eq c.axis axis) (int_le c.low c.high) other))
    (no_cut axes axis value cs beyond on_axes.1)

-- an axis without conditions is one interval
one_interval : (axes axis : ℕ) (conditions : List Condition) → axes ≤ axis → AllByRecursion (λ condition. condition.axis < axes) conditions → share (is_cut conditions axis) whole_axis ≡ 1
one_interval axes axis conditions beyond on_axes =
    share_is (is_cut conditions axis) whole_axis ∙ ap suc (cuts_none (is_cut conditions axis) (neg_ℤ (pos 16384)) 32768 (λ value. no_cut axes axis value conditions beyond on_axes))

weight_beyond : (axes axis count : ℕ) (conditions : List Condition) → axes ≤ axis → AllByRecursion (λ condition. condition.axis < axes) conditions → weight_from (is_cut conditions) axis (replicate count whole_axis) ≡ 1
weight_beyond axes axis zero conditions beyond on_axes = refl
weight_beyond axes axis (suc count) conditions beyond on_axes =
    ap (λ (n : ℕ). n * weight_from (is_cut conditions) (axis + 1) (replicate count whole_axis)) (one_interval axes axis conditions beyond on_axes)
    ∙ (one-mul (weight_from (is_cut conditions) (axis + 1) (replicate count whole_axis)) ∙ weight_beyond axes (axis + 1) count conditions (omega arith) on_axes)

-- where no product is too great, the whole is not
product_law : (axes axis left count : ℕ) (conditions : List Condition) (product : ℕ) → axes ≤ axis + left → AllByRecursion (λ condition. condition.axis < axes) conditions → product ≤ 32768 → first_above conditions product axis left ≡ None
    → product * weight_from (is_cut conditions) axis (replicate (left + count) whole_axis) ≤ 32768
product_law axes axis zero count conditions product beyond on_axes few none =
    let nothing : zero + count ≡ count = omega arith in
    let one : product * weight_from (is_cut conditions) axis (replicate (zero + count) whole_axis) ≡ product =
    ap (λ (n : ℕ). product * weight_from (is_cut conditions) axis (replicate n whole_axis)) nothing ∙ (ap (λ (n : ℕ). product * n) (weight_beyond axes axis count conditions (omega arith) on_axes) ∙ mul-one product) in
    omega arith
product_law axes axis (suc left) count conditions product beyond on_axes few none = elim (cases_Bool (nat_lt 32768 (product * intervals_on conditions axis))) [
  | inl above ↦ let some : Some (product * intervals_on conditions axis) ≡ None = rw above at none in absurd cc
  | inr isnt ↦
      let next : first_above conditions (product * intervals_on conditions axis) (axis + 1) left ≡ None = rw isnt at none in
      let here : product * intervals_on conditions axis ≤ 32768 = ltb-false 32768 (product * intervals_on conditions axis) isnt in
      let rest = product_law axes (axis + 1) left count conditions (product * intervals_on conditions axis) (omega arith) on_axes here next in
      let later = weight_from (is_cut conditions) (axis + 1) (replicate (left + count) whole_axis) in
      let more : suc left + count ≡ suc (left + count) = omega arith in
      let spread : product * weight_from (is_cut conditions) axis (replicate (suc left + count) whole_axis) ≡ (product * intervals_on conditions axis) * later =
      ap (λ (n : ℕ). product * weight_from (is_cut conditions) axis (replicate n whole_axis)) more
      ∙ (ap (λ (n : ℕ). product * (n * later)) (sym (intervals_share conditions axis)) ∙ sym (mul_assoc product (intervals_on conditions axis) later)) in
      omega arith
]

pub few_zones : (axes : ℕ) (rules : List (List (List Condition))) → axes ≤ 8 → AllByRecursion (λ condition. condition.axis < axes) (conditions_of rules)
    → AllByRecursion (λ sets. AllByRecursion (λ set. AllByRecursion (λ condition. condition.axis < 8) set) sets) rules
    → grid_above axes rules ≡ None → length (overlaid axes rules) ≤ 32768
unfolding overlaid
few_zones axes rules few on_axes on_eight none =
    let conditions = conditions_of rules in
    let test = is_cut conditions in
    let same = laid_rules_weight test axes 0 rules (bare ∷ []) few (fine_bare, tt) (aligned_rules test axes rules (all_cut conditions) on_eight) in
    let left : (n : ℕ) × (axes + n ≡ 8) = (8 - axes, omega arith) in
    let product = product_law axes 0 axes left.0 conditions 1 (omega arith) on_axes (omega arith) none in
    let eight : weight_from test 0 (replicate (axes + left.0) whole_axis) ≡ weight_from test 0 whole = ap (λ (n : ℕ). weight_from test 0 (replicate n whole_axis)) left.1 in
    let one = one-mul (weight_from test 0 (replicate (axes + left.0) whole_axis)) in
    let zones = length-le-weights test (overlaid axes rules) in
    omega arith
