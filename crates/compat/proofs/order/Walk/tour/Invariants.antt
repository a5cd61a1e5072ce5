use Rattle.compat.specs.Walks.{IsTour, steps_left}
use Rattle.compat.proofs.order.Walk.tour.Given as goal

abbrev pub invariant-loop-top : goal.invariant-loop-top
invariant-loop-top l = IsTour l.graph l.self.nodes.items l.self.path.items l.self.order.items

abbrev pub decreases-loop-top : goal.decreases-loop-top
decreases-loop-top l = steps_left l.self.nodes.items l.self.path.items
