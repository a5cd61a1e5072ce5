use Rattle.std.proofs.Common.{length}
use Rattle.cmap_name.proofs.tests.+can_be_map.Given as goal

abbrev pub decreases-can_be_map : goal.decreases-can_be_map
decreases-can_be_map l = length l.codes.now
