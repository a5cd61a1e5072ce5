use Rattle.std.proofs.Common.{◌≡◌, take}
use Rattle.compat.specs.Flattened.{shown_count}
use Rattle.compat.proofs.flat.point_count.Given as goal

abbrev pub invariant-loop-contour : goal.invariant-loop-contour
invariant-loop-contour l = l.count ≡ shown_count (take l.contour-index l.contours)
