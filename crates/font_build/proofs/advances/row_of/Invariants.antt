use Rattle.std.proofs.Common.{◌≡◌, ◌++◌, map, drop}
use Rattle.delta_solve.specs.GlyphModels.{delta_advance}
use Rattle.font_build.proofs.advances.row_of.Given as goal

abbrev pub invariant-loop-master : goal.invariant-loop-master
invariant-loop-master l = l.row ++ map delta_advance (drop l.master l.tuples) ≡ map delta_advance (drop 1 l.tuples)
