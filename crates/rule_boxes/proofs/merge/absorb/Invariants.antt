use Rattle.std.proofs.Common.{vec_len}
use Rattle.rule_boxes.proofs.MergeLemmas.{Joins}
use Rattle.rule_boxes.proofs.merge.absorb.Given as goal

-- joining so far
abbrev pub invariant-loop-index : goal.invariant-loop-index
invariant-loop-index l = Joins l.initial.zones.items l.initial.zone l.zones.items l.zone

abbrev pub decreases-loop-index : goal.decreases-loop-index
decreases-loop-index l = vec_len l.zones
