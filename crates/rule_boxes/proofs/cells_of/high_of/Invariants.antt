use Rattle.std.proofs.Common.{◌≡◌, map, take}
use Rattle.rule_boxes.proofs.cells_of.high_of.Given as goal

-- the ends of the axes so far
abbrev pub invariant-loop-axis : goal.invariant-loop-axis
invariant-loop-axis l = l.high.items ≡ map (λ interval. interval.high) (take l.axis l.area)
