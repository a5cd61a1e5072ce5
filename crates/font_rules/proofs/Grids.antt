-- The product that a fault tells fits its field; and rules by their sets.
use Rattle.std.proofs.Common.{◌≡◌, ℕ, zero, suc, ◌+◌, ◌*◌, ◌≤◌, ◌<◌, ℤ, pos, ◌+ℤ◌, Bool, true, false, List, All, Option, Some, None, refl, sym, subst, ap, arith}
use Rattle.std.proofs.lemmas.Bool.{ltb-false}
use Rattle.std.proofs.lemmas.List.Elements.{All-map, All-weaker}
use Rattle.std.proofs.lemmas.Nat.{mul-le}
use Rattle.std.proofs.lemmas.Option.{none-some}
use Rattle.std.specs.Prelude.{nat_lt, if◌then◌else◌, unwrap_or}
use Rattle.rule_boxes.specs.declared.condition.Condition.{Condition}
use Rattle.rule_boxes.specs.Answers.{HaveAxes}
use Rattle.rule_boxes.specs.Grid.{conditions_of, cuts_after, first_above, grid_above, intervals_on, is_cut, least, steps}
use Rattle.designspace.specs.Limits.{IsRuleOn}
use Rattle.designspace.specs.declared.rule.Rule.{Rule}
use Rattle.font_rules.specs.RuleNumbers.{sets_of}

one_cut : (test : Bool) → (if test then 1 else 0) ≤ 1
one_cut true = omega arith
one_cut false = omega arith

cuts_few : (test : ℤ → Bool) (from : ℤ) (count : ℕ) → cuts_after test from count ≤ count
unfolding cuts_after
cuts_few test from zero = omega arith
cuts_few test from (suc count) =
    let cut : ℕ = if test (from +ℤ pos 1) then 1 else 0 in
    let one : cut ≤ 1 = one_cut (test (from +ℤ pos 1)) in
    let more : cuts_after test (from +ℤ pos 1) count ≤ count = cuts_few test (from +ℤ pos 1) count in
    omega (arith, one, more)

intervals_few : (conditions : List Condition) (axis : ℕ) → intervals_on conditions axis ≤ 32769
unfolding intervals_on
intervals_few conditions axis = let few : cuts_after (is_cut conditions axis) least steps ≤ 32768 = cuts_few (is_cut conditions axis) least steps in omega (arith, few)

-- the first product above a number is at most one axis past it
step : (test : Bool) (next product : ℕ) (rest : Option ℕ) → test ≡ nat_lt 32768 next → next ≤ 1073774592 → (next ≤ 32768 → rest ≡ Some product → product ≤ 1073774592)
    → (if test then Some next else rest) ≡ Some product → product ≤ 1073774592
step true next product rest above small further is = subst (λ (n : ℕ). n ≤ 1073774592) (ap (λ (o : Option ℕ). unwrap_or o 0) is) small
step false next product rest above small further is = further (ltb-false 32768 next (sym above)) is

above_small : (conditions : List Condition) (product axis axes found : ℕ) → product ≤ 32768 → first_above conditions product axis axes ≡ Some found → found ≤ 1073774592
above_small conditions product axis zero found few is = absurd (none-some found is)
above_small conditions product axis (suc axes) found few is =
    let next : ℕ = product * intervals_on conditions axis in
    step (nat_lt 32768 next) next found (first_above conditions next (axis + 1) axes) refl
    (mul-le product (intervals_on conditions axis) 32768 32769 few (intervals_few conditions axis))
    (λ small. above_small conditions next (axis + 1) axes found small) is

pub product_small : (axes : ℕ) (rules : List (List (List Condition))) (found : ℕ) → grid_above axes rules ≡ Some found → found ≤ 1073774592
product_small axes rules found is = above_small (conditions_of rules) 1 0 axes found (omega arith) is

-- the conditions of rules on these axes are on them
pub have_axes : (axes : ℕ) (rules : List Rule) → All (IsRuleOn axes) rules → HaveAxes axes (sets_of rules)
have_axes axes rules on =
    All-map (λ (sets : List (List Condition)). All (λ set. All (λ condition. condition.axis < axes) set) sets) (λ (rule : Rule). rule.sets) rules
    (All-weaker (IsRuleOn axes) (λ (rule : Rule). All (λ set. All (λ condition. condition.axis < axes) set) rule.sets) (λ (rule : Rule) (is : IsRuleOn axes rule). is.conditions) rules on)
