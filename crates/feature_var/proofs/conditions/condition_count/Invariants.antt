use Rattle.std.proofs.Common.{◌≡◌, ◌+◌, ◌≤◌, length, drop}
use Rattle.feature_var.specs.Layout.{conditions_from}
use Rattle.feature_var.proofs.conditions.condition_count.Given as goal

-- the conditions so far, and those of the axes that are left
abbrev pub invariant-loop-axis : goal.invariant-loop-axis
invariant-loop-axis l = record {
  few : l.count ≤ l.axis;
  exact : l.count + length (conditions_from l.axis (drop l.axis l.low) (drop l.axis l.high)) ≡ length (conditions_from 0 l.low l.high);
}
