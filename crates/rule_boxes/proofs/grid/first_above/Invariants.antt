use Rattle.std.proofs.Common.{◌≡◌, ◌≤◌, ◌-◌}
use Rattle.rule_boxes.specs.Grid.{first_above}
use Rattle.rule_boxes.proofs.grid.first_above.Given as goal

-- the axes that are left decide
abbrev pub invariant-loop-axis : goal.invariant-loop-axis
invariant-loop-axis l = record {
  few : l.product ≤ 32768;
  rest : first_above l.conditions l.product l.axis (l.axes - l.axis) ≡ first_above l.conditions 1 0 l.axes;
}
