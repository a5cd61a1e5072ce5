use Rattle.std.proofs.Common.{◌≤◌}
use Rattle.iup.proofs.tests.inferring_sets.Given as goal

abbrev pub invariant-loop-mask : goal.invariant-loop-mask
invariant-loop-mask l = l.sets ≤ l.mask
