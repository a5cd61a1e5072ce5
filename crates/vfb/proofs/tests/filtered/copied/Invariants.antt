use Rattle.std.proofs.Common.{◌≡◌, take}
use Rattle.vfb.proofs.tests.filtered.copied.Given as goal

abbrev pub invariant-loop-contour : goal.invariant-loop-contour
invariant-loop-contour l = l.copy.items ≡ take l.contour-index l.contours
