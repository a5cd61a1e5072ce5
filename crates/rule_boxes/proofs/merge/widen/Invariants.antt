use Rattle.std.proofs.Common.{◌≡◌, ◌++◌, take, drop}
use Rattle.rule_boxes.specs.Merging.{hulls}
use Rattle.rule_boxes.proofs.merge.widen.Given as goal

-- the axes so far are widened, and the rest is as it was
abbrev pub invariant-loop-axis : goal.invariant-loop-axis
invariant-loop-axis l = record {
  rest : drop l.axis l.area ≡ drop l.axis l.initial.area;
  whole : take l.axis l.area ++ hulls (drop l.axis l.area) (drop l.axis l.other) ≡ hulls l.initial.area l.other;
}
