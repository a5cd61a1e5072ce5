use Rattle.std.proofs.Common.{◌≡◌, map, take}
use Rattle.rule_boxes.proofs.cells_of.low_of.Given as goal

-- the ends of the axes so far
abbrev pub invariant-loop-axis : goal.invariant-loop-axis
invariant-loop-axis l = l.low.items ≡ map (λ interval. interval.low) (take l.axis l.area)
