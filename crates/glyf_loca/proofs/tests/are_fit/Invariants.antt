use Rattle.std.proofs.Common.{take}
use Rattle.std.specs.Prelude.{All}
use Rattle.glif.specs.Limits.{IsWithinLimits}
use Rattle.glyf_loca.proofs.tests.are_fit.Given as goal

abbrev pub invariant-loop-outline : goal.invariant-loop-outline
invariant-loop-outline l = All IsWithinLimits (take l.outline-index l.outlines)
