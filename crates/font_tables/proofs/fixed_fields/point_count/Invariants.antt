use Rattle.std.proofs.Common.{◌≡◌, ◌+◌, length, sum_by, drop}
use Rattle.font_tables.proofs.fixed_fields.point_count.Given as goal

abbrev pub invariant-loop-contour : goal.invariant-loop-contour
invariant-loop-contour l = l.count + sum_by length (drop l.contour-index l.contours) ≡ sum_by length l.contours
