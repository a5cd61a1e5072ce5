use Rattle.std.proofs.Common.{◌≡◌, ◌-◌, ◌^◌, min, length, take}
use Rattle.std.specs.Prelude.{sum_by}
use Rattle.glif.proofs.limits.point_count.Given as goal

abbrev pub invariant-loop-contour : goal.invariant-loop-contour
invariant-loop-contour l = l.count ≡ min (sum_by length (take l.contour-index l.contours)) (2 ^ 64 - 1)
