use Rattle.std.proofs.Common.{◌≡◌, take, map}
use Rattle.compat.specs.Flattened.{moved}
use Rattle.compat.proofs.flat.moved_contour.Given as goal

abbrev pub invariant-loop-point : goal.invariant-loop-point
invariant-loop-point l = l.contour.items ≡ map (moved l.component) (take l.point-index l.points)
