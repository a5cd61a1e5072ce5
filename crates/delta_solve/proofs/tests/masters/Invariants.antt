use Rattle.std.proofs.Common.{◌≡◌, length}
use Rattle.delta_solve.proofs.tests.masters.Given as goal

abbrev pub invariant-loop-x : goal.invariant-loop-x
invariant-loop-x l = record {
  supports : length l.supports.items ≡ l.x-index;
  locations : length l.locations.items ≡ l.x-index;
}
