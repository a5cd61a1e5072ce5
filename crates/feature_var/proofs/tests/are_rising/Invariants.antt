use Rattle.std.proofs.Common.{ℕ, ◌+◌, ◌<◌}
use Rattle.std.specs.Prelude.{slice_index}
use Rattle.feature_var.proofs.tests.are_rising.Given as goal

-- each number so far is below the next
abbrev pub invariant-loop-next : goal.invariant-loop-next
invariant-loop-next l = (k : ℕ) → k + 1 < l.next → slice_index l.numbers k < slice_index l.numbers (k + 1)
