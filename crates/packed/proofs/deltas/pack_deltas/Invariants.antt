use Rattle.std.proofs.Common.{ℕ, List, ◌++◌, length, All, FitsSigned}
use Rattle.std.specs.Int.{w16}
use Rattle.variation_rules.specs.PackedDeltas.{PacksDeltas}
use Rattle.packed.proofs.deltas.pack_deltas.Given as goal

-- What stands for the rest completes the whole.
abbrev pub invariant-loop-rest : goal.invariant-loop-rest
invariant-loop-rest l = record {
  words : All (FitsSigned w16) l.rest;
  completes : (tail : List ℕ) → PacksDeltas tail l.rest → PacksDeltas (l.bytes.items ++ tail) l.fn.deltas;
}

abbrev pub decreases-loop-rest : goal.decreases-loop-rest
decreases-loop-rest l = length l.rest
