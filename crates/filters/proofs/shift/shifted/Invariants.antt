use Rattle.std.proofs.Common.{◌≡◌, take, map}
use Rattle.filters.specs.Shift.{shifted_point}
use Rattle.filters.proofs.shift.shifted.Given as goal

abbrev pub invariant-loop-contour : goal.invariant-loop-contour
invariant-loop-contour l = l.contours.items ≡ map (map (shifted_point l.dx l.dy)) (take l.contour-index l.outline.contours)
