use Rattle.std.proofs.Common.{◌≡◌, take, map}
use Rattle.mirror_filter.specs.Mirror.{mirrored_point}
use Rattle.mirror_filter.proofs.mirror.mirrored.Given as goal

abbrev pub invariant-loop-contour : goal.invariant-loop-contour
invariant-loop-contour l = l.contours.items ≡ map (map (mirrored_point l.width)) (take l.contour-index l.outline.contours)
