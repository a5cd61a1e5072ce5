use Rattle.std.proofs.Common.{◌≡◌, ◌++◌, drop}
use Rattle.std.specs.List.{flat_map}
use Rattle.feature_var.specs.Layout.{condition_bytes, conditions_from}
use Rattle.feature_var.proofs.conditions.put_conditions.Given as goal

-- the conditions so far, and those of the axes that are left
abbrev pub invariant-loop-axis : goal.invariant-loop-axis
invariant-loop-axis l =
    l.out.items ++ flat_map condition_bytes (conditions_from l.axis (drop l.axis l.low) (drop l.axis l.high)) ≡ l.initial.out.items ++ flat_map condition_bytes (conditions_from 0 l.low l.high)
