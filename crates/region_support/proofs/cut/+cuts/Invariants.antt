use Rattle.std.proofs.Common.{length}
use Rattle.region_support.proofs.cut.+cuts.Given as goal

abbrev pub decreases-cuts : goal.decreases-cuts
decreases-cuts l = length l.region.now
