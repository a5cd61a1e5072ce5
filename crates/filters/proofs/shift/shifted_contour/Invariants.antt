use Rattle.std.proofs.Common.{◌≡◌, take, map}
use Rattle.filters.specs.Shift.{shifted_point}
use Rattle.filters.proofs.shift.shifted_contour.Given as goal

abbrev pub invariant-loop-point : goal.invariant-loop-point
invariant-loop-point l = l.contour.items ≡ map (shifted_point l.dx l.dy) (take l.point-index l.points)
