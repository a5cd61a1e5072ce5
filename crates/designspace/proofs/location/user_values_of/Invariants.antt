use Rattle.std.proofs.Common.{◌≡◌, ◌++◌, drop}
use Rattle.designspace.specs.Locations.{user_values_from}
use Rattle.std.specs.Prelude.{length}
use Rattle.designspace.proofs.location.user_values_of.Given as goal

abbrev pub invariant-loop-number : goal.invariant-loop-number
invariant-loop-number l = record {
  exact : l.values ++ user_values_from l.dimensions l.number (drop l.number l.axes) ≡ user_values_from l.dimensions 0 l.axes;
  count : length l.values ≡ l.number;
}
