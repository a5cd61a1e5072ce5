use Rattle.std.proofs.Common.{◌≡◌, drop}
use Rattle.compat.specs.Flattened.{coordinate_outside}
use Rattle.compat.proofs.outlines.coordinate_in.Given as goal

abbrev pub invariant-loop-contour : goal.invariant-loop-contour
invariant-loop-contour l = coordinate_outside (drop l.contour-index l.contours) ≡ coordinate_outside l.contours
