use Rattle.std.proofs.Common.{◌≡◌, drop}
use Rattle.glif.specs.FirstOutside.{first_given, point_outside}
use Rattle.glif.proofs.limits.coordinate_outside.Given as goal

abbrev pub invariant-loop-point : goal.invariant-loop-point
invariant-loop-point l = first_given point_outside (drop l.point-index l.points) ≡ first_given point_outside l.points
