use Rattle.compat.specs.Searches.{IsSpreading, work_left}
use Rattle.compat.proofs.cycle.mark_from.Given as goal

abbrev pub invariant-loop-next : goal.invariant-loop-next
invariant-loop-next l = IsSpreading l.graph l.marked.items l.waiting.items

abbrev pub decreases-loop-next : goal.decreases-loop-next
decreases-loop-next l = work_left l.marked.items l.waiting.items
