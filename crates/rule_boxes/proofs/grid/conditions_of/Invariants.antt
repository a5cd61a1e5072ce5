use Rattle.std.proofs.Common.{◌≡◌, ◌++◌, drop}
use Rattle.rule_boxes.specs.Grid.{conditions_of}
use Rattle.rule_boxes.proofs.grid.conditions_of.Given as goal

-- the rules that are left complete them
abbrev pub invariant-loop-sets : goal.invariant-loop-sets
invariant-loop-sets l = l.conditions.items ++ conditions_of (drop l.sets-index l.rules) ≡ conditions_of l.rules
