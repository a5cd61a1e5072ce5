use Rattle.std.proofs.Common.{ℕ, List, ◌++◌, ◌^◌, ◌<◌, length, All}
use Rattle.packed.specs.Differences.{PacksDifferences, AddsDifferences}
use Rattle.packed.proofs.points.push_differences.Given as goal

-- What stands for the rest completes the whole.
abbrev pub invariant-loop-rest : goal.invariant-loop-rest
invariant-loop-rest l = record {
  words : All (λ d. d < 2 ^ 16) l.rest;
  completes : (tail : List ℕ) → PacksDifferences tail l.rest → AddsDifferences l.initial.bytes.items (l.bytes.items ++ tail) l.fn.differences;
}

abbrev pub decreases-loop-rest : goal.decreases-loop-rest
decreases-loop-rest l = length l.rest
