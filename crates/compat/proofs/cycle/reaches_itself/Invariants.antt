use Rattle.compat.specs.Searches.{IsSearch, work_left}
use Rattle.compat.proofs.cycle.reaches_itself.Given as goal

abbrev pub invariant-loop-next : goal.invariant-loop-next
invariant-loop-next l = IsSearch l.graph l.number l.marked.items l.waiting.items

abbrev pub decreases-loop-next : goal.decreases-loop-next
decreases-loop-next l = work_left l.marked.items l.waiting.items
