use Rattle.std.proofs.Common.{◌≤◌, ◌^◌, length}
use Rattle.variation_rules.specs.PackedPoints.{RisesWithin}
use Rattle.gvar_table.proofs.conditions.rise_within.Given as goal

-- Where the rest rises, all do.
abbrev pub invariant-loop-rest : goal.invariant-loop-rest
invariant-loop-rest l = record {
  within : l.low ≤ 2 ^ 16;
  all_rise : RisesWithin l.low l.fn.count l.rest → RisesWithin 0 l.fn.count l.fn.points;
}

abbrev pub decreases-loop-rest : goal.decreases-loop-rest
decreases-loop-rest l = length l.rest
