use Rattle.std.proofs.Common.{◌≡◌, drop}
use Rattle.rule_boxes.specs.Overlay.{laid_sets}
use Rattle.rule_boxes.proofs.overlay.lay_sets.Given as goal

-- the sets that are left complete them
abbrev pub invariant-loop-set : goal.invariant-loop-set
invariant-loop-set l = laid_sets l.axes l.rule (drop l.set-index l.sets) l.zones.items ≡ laid_sets l.axes l.rule l.sets l.initial.zones.items
