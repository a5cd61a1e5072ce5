use Rattle.std.proofs.Common.{◌≡◌, take, map}
use Rattle.filters.specs.Reverse.{turned}
use Rattle.filters.proofs.reverse.reversed.Given as goal

abbrev pub invariant-loop-contour : goal.invariant-loop-contour
invariant-loop-contour l = l.contours.items ≡ map turned (take l.contour-index l.outline.contours)
