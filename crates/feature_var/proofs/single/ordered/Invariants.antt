use Rattle.std.proofs.Common.{◌≡◌, ◌++◌}
use Rattle.feature_var.proofs.single.ordered.Given as goal

-- the pairs so far, and those that are left, are those of the map
abbrev pub invariant-loop-first : goal.invariant-loop-first
invariant-loop-first l = l.ordered ++ l.first-iterator ≡ l.initial.first-iterator
