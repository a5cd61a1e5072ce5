use Rattle.std.proofs.Common.{◌≡◌, take}
use Rattle.glyph_variations.specs.Variations.{picked}
use Rattle.glyph_variations.proofs.deltas.picked.Given as goal

abbrev pub invariant-loop-point : goal.invariant-loop-point
invariant-loop-point l = l.some.items ≡ picked l.deltas (take l.point-index l.points)
