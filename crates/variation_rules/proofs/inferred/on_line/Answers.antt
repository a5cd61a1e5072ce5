use Rattle.std.proofs.Common.{◌-ℤ◌, ◌+ℤ◌, FitsSigned, to_z-of_z, arith, rules}
use Rattle.std.proofs.lemmas.Int.{ints}
use Rattle.std.specs.Int.{w64}
use Rattle.variation_rules.specs.InferredDelta.{OnLine}
use Rattle.variation_rules.specs.FontUnits.{IsFWord}
use Rattle.variation_rules.proofs.InferredLemmas.{line_from_step, step_from_line, line_is_fword}
use Rattle.variation_rules.proofs.inferred.on_line.Goals as goal
use Rattle.variation_rules.proofs.inferred.on_line.Goals.{In-Some}

-- the step leads to the line
sum_on_line : (c : In-Some) → OnLine c.args.first.at c.args.first.delta c.args.second.at c.args.second.delta c.args.at (c.args.first.delta +ℤ c.in-Some.step)
sum_on_line c =
    let at_fits = c.ranges.at in
    line_from_step c.args.first.at c.args.first.delta c.args.second.at c.args.second.delta c.args.at c.in-Some.step c.requires.left c.requires.right
    (simp to_z-of_z at c.in-Some.ensures)

sum_is_fword : (c : In-Some) → IsFWord (c.args.first.delta +ℤ c.in-Some.step)
sum_is_fword c =
    line_is_fword c.args.first.at c.args.first.delta c.args.second.at c.args.second.delta c.args.at (c.args.first.delta +ℤ c.in-Some.step)
    c.requires.left c.requires.right c.requires.first.delta c.requires.second.delta (sum_on_line c)

pub overflow_add-result : goal.overflow_add-result
overflow_add-result c =
    let word = sum_is_fword (goal.at.overflow_add-result c).In-Some in
    omega (arith, ints)

pub returns-in-Some-clause-value : goal.returns-in-Some-clause-value
returns-in-Some-clause-value c =
    let word = sum_is_fword (goal.at.returns-in-Some-clause-value c).In-Some in
    let delta_fits : FitsSigned w64 c.args.first.delta = omega (arith, ints) in
    let step_fits : FitsSigned w64 c.in-Some.step = search rules in
    let sum_fits : FitsSigned w64 (c.args.first.delta +ℤ c.in-Some.step) = omega (arith, ints) in
    simp to_z-of_z (sum_on_line (goal.at.returns-in-Some-clause-value c).In-Some)

pub returns-in-Some-clause-within : goal.returns-in-Some-clause-within
returns-in-Some-clause-within c =
    let word = sum_is_fword (goal.at.returns-in-Some-clause-within c).In-Some in
    let delta_fits : FitsSigned w64 c.args.first.delta = omega (arith, ints) in
    let step_fits : FitsSigned w64 c.in-Some.step = search rules in
    let sum_fits : FitsSigned w64 (c.args.first.delta +ℤ c.in-Some.step) = omega (arith, ints) in
    simp to_z-of_z word

-- a delta on the line would be such a step away
pub returns-in-None-clause-value : goal.returns-in-None-clause-value
returns-in-None-clause-value c d line =
    let at_fits = c.ranges.at in
    let none = simp to_z-of_z at c.in-None.ensures in
    none (d -ℤ c.args.first.delta) (step_from_line c.args.first.at c.args.first.delta c.args.second.at c.args.second.delta c.args.at d c.requires.left c.requires.right line)
