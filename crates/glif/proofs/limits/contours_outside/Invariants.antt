use Rattle.std.proofs.Common.{◌≡◌, drop}
use Rattle.glif.specs.FirstOutside.{first_given, contour_outside}
use Rattle.glif.proofs.limits.contours_outside.Given as goal

abbrev pub invariant-loop-contour : goal.invariant-loop-contour
invariant-loop-contour l = first_given contour_outside (drop l.contour-index l.contours) ≡ first_given contour_outside l.contours
