use Rattle.std.proofs.Common.{◌≤◌, ◌^◌, length}
use Rattle.variation_rules.specs.PackedPoints.{RisesWithin}
use Rattle.packed.proofs.tests.rise.Given as goal

-- Where the rest rises, all do.
abbrev pub invariant-loop-rest : goal.invariant-loop-rest
invariant-loop-rest l = record {
  within : l.low ≤ 2 ^ 16;
  all_rise : RisesWithin l.low (2 ^ 16) l.rest → RisesWithin 0 (2 ^ 16) l.fn.points;
}

abbrev pub decreases-loop-rest : goal.decreases-loop-rest
decreases-loop-rest l = length l.rest
