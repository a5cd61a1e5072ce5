use Rattle.std.proofs.Common.{length}
use Rattle.vfb.proofs.choosing.+is_there.Given as goal

abbrev pub decreases-is_there : goal.decreases-is_there
decreases-is_there g l = length l.handed.now
