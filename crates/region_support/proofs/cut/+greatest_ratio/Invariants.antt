use Rattle.std.proofs.Common.{length}
use Rattle.region_support.proofs.cut.+greatest_ratio.Given as goal

abbrev pub decreases-greatest_ratio : goal.decreases-greatest_ratio
decreases-greatest_ratio l = length l.region.now
