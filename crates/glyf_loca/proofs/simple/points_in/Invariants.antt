use Rattle.std.proofs.Common.{◌≡◌, take}
use Rattle.glyf_loca.specs.Bounds.{points_in}
use Rattle.glyf_loca.proofs.simple.points_in.Given as goal

-- the points of the contours so far
abbrev pub invariant-loop-contour : goal.invariant-loop-contour
invariant-loop-contour l = l.points.items ≡ points_in (take l.contour-index l.contours)
