use Rattle.std.proofs.Common.{ℕ, ◌<◌}
use Rattle.compat.specs.References.{Reaches}
use Rattle.compat.proofs.cycle.first_on_cycle.Given as goal

abbrev pub invariant-loop-number : goal.invariant-loop-number
invariant-loop-number l = (other : ℕ) → other < l.number → ¬ Reaches l.graph other other
