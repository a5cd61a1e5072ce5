use Rattle.std.proofs.Common.{◌≡◌, ◌++◌, drop}
use Rattle.rule_boxes.specs.Overlay.{laid_all}
use Rattle.rule_boxes.proofs.overlay.lay.Given as goal

-- the zones that are left complete them
abbrev pub invariant-loop-zone : goal.invariant-loop-zone
invariant-loop-zone l = l.laid.items ++ laid_all l.rule l.set (drop l.zone-index l.zones) ≡ laid_all l.rule l.set l.zones
