use Rattle.std.proofs.Common.{◌≡◌, take, map, length}
use Rattle.delta_solve.proofs.glyph.contour_lengths.Given as goal

abbrev pub invariant-loop-contour : goal.invariant-loop-contour
invariant-loop-contour l = l.lengths.items ≡ map length (take l.contour-index l.contour-items)
