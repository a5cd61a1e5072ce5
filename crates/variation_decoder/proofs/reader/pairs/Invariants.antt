use Rattle.std.proofs.Common.{◌≡◌, ◌++◌, length}
use Rattle.variation_decoder.specs.Tuples.{pairs}
use Rattle.variation_decoder.proofs.reader.pairs.Given as goal

abbrev pub invariant-loop-xs : goal.invariant-loop-xs
invariant-loop-xs l = l.pairs ++ pairs l.xs l.ys ≡ pairs l.fn.xs l.fn.ys

abbrev pub decreases-loop-xs : goal.decreases-loop-xs
decreases-loop-xs l = length l.xs
