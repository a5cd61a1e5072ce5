use Rattle.std.proofs.Common.{◌≡◌, take, map}
use Rattle.mirror_filter.specs.Mirror.{mirrored_point}
use Rattle.mirror_filter.proofs.mirror.mirrored_contour.Given as goal

abbrev pub invariant-loop-point : goal.invariant-loop-point
invariant-loop-point l = l.contour.items ≡ map (mirrored_point l.width) (take l.point-index l.points)
