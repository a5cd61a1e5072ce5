use Rattle.std.proofs.Common.{◌≡◌, length, All}
use Rattle.arrayvec.specs.ArrayVec.{array_vec_len}
use Rattle.region_support.proofs.tests.locations.Given as goal

abbrev pub invariant-loop-values : goal.invariant-loop-values
invariant-loop-values g l = record {
  lengths : All (λ at. array_vec_len at ≡ g.row.N) l.locations;
  count : length l.locations ≡ l.values-index;
}
