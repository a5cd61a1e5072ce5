use Rattle.explicit_points.proofs.ContourSteps.{AreSetsTo}
use Rattle.explicit_points.proofs.named.least_sets.Given as goal

abbrev pub invariant-loop-length : goal.invariant-loop-length
invariant-loop-length l = AreSetsTo l.fn.lengths l.fn.points l.fn.deltas l.length-index l.start l.points l.deltas l.named.items
