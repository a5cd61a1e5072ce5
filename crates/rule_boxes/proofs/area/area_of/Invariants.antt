use Rattle.std.proofs.Common.{◌≡◌, drop}
use Rattle.rule_boxes.specs.Areas.{whole, with_conditions}
use Rattle.rule_boxes.proofs.area.area_of.Given as goal

-- the conditions that are left complete it
abbrev pub invariant-loop-condition : goal.invariant-loop-condition
invariant-loop-condition l = with_conditions l.area (drop l.condition-index l.set) ≡ with_conditions whole l.set
