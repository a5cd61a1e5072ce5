use Rattle.std.proofs.Common.{◌≡◌}
use Rattle.compat.specs.Walks.{IsWalk, StaySeen, mark_at, steps_left}
use Rattle.compat.specs.declared.order.Mark.TheVariants.{New}
use Rattle.compat.proofs.order.Walk.visit.Given as goal

abbrev pub invariant-loop-top : goal.invariant-loop-top
invariant-loop-top l = IsWalk l.graph l.self.nodes.items l.self.path.items l.self.order.items × StaySeen l.fn.self.nodes.items l.self.nodes.items × (¬ (mark_at l.self.nodes.items l.root ≡ New))

abbrev pub decreases-loop-top : goal.decreases-loop-top
decreases-loop-top l = steps_left l.self.nodes.items l.self.path.items
