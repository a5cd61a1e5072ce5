use Rattle.std.proofs.Common.{◌≡◌, ◌++◌, drop}
use Rattle.rule_boxes.specs.Overlay.{outside_from, inside_from}
use Rattle.rule_boxes.proofs.overlay.lay_on.Given as goal

-- the axes that are left complete what is outside and what is inside
abbrev pub invariant-loop-axis : goal.invariant-loop-axis
invariant-loop-axis l = record {
  outside : l.zones.items ++ outside_from (drop l.axis l.set) l.axis l.inside ≡ l.initial.zones.items ++ outside_from l.set 0 l.initial.inside;
  inside : inside_from (drop l.axis l.set) l.axis l.inside ≡ inside_from l.set 0 l.initial.inside;
}
