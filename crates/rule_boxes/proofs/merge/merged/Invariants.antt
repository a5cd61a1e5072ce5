use Rattle.std.proofs.Common.{take}
use Rattle.rule_boxes.specs.Merging.{IsMerged}
use Rattle.rule_boxes.proofs.merge.merged.Given as goal

-- the zones so far are merged
abbrev pub invariant-loop-zone : goal.invariant-loop-zone
invariant-loop-zone l = IsMerged (take l.zone-index l.zones) l.merged.items
