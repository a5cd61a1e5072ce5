use Rattle.std.proofs.Common.{◌≡◌, take, flat_map}
use Rattle.delta_solve.proofs.glyph.all_points.Given as goal

abbrev pub invariant-loop-contour : goal.invariant-loop-contour
invariant-loop-contour l = l.points.items ≡ flat_map (λ contour. contour) (take l.contour-index l.contour-items)
