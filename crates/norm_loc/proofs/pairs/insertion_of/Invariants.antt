use Rattle.std.proofs.Common.{length}
use Rattle.norm_loc.proofs.PairLemmas.{IsPrefix}
use Rattle.norm_loc.proofs.pairs.insertion_of.Given as goal

abbrev pub invariant-loop-prefix : goal.invariant-loop-prefix
invariant-loop-prefix l = IsPrefix l.pair l.pairs l.prefix

abbrev pub decreases-loop-prefix : goal.decreases-loop-prefix
decreases-loop-prefix l = length l.prefix
