use Rattle.std.proofs.Common.{◌≡◌, take}
use Rattle.rule_boxes.specs.Merging.{cells_of}
use Rattle.rule_boxes.proofs.cells_of.cells_of.Given as goal

-- the boxes of the zones so far
abbrev pub invariant-loop-zone : goal.invariant-loop-zone
invariant-loop-zone l = l.cells ≡ cells_of l.axes (take l.zone-index l.zones)
