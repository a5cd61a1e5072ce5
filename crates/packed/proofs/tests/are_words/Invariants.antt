use Rattle.std.proofs.Common.{take, All, FitsSigned}
use Rattle.std.specs.Int.{w16}
use Rattle.packed.proofs.tests.are_words.Given as goal

abbrev pub invariant-loop-value : goal.invariant-loop-value
invariant-loop-value l = All (FitsSigned w16) (take l.value-index l.values)
