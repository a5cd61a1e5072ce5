use Rattle.std.proofs.Common.{length}
use Rattle.cmap_name.proofs.tests.+can_be_names.Given as goal

abbrev pub decreases-can_be_names : goal.decreases-can_be_names
decreases-can_be_names l = length l.names.now
