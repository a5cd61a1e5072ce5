use Rattle.std.proofs.Common.{◌≡◌, ◌+◌, All, length}
use Rattle.variation_rules.specs.FontUnits.{AreFWords}
use Rattle.explicit_points.proofs.tests.push_pairs.Given as goal

abbrev pub invariant-loop-x : goal.invariant-loop-x
invariant-loop-x l = record {
  fit : All AreFWords l.pairs.items;
  count : length l.pairs.items ≡ length l.initial.pairs.items + l.x-index;
}
