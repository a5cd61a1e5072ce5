use Rattle.std.proofs.Common.{◌≡◌}
use Rattle.variation_rules.specs.PackedPoints.{count_from}
use Rattle.variation_decoder.proofs.packed.all_points.Given as goal

abbrev pub invariant-loop-point : goal.invariant-loop-point
invariant-loop-point l = l.points ≡ count_from l.point 0
