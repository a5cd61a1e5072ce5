use Rattle.compat.specs.Walks.{IsTour}
use Rattle.compat.proofs.order.finishing_order.Given as goal

abbrev pub invariant-loop-root : goal.invariant-loop-root
invariant-loop-root l = IsTour l.graph l.walk.nodes.items l.walk.path.items l.walk.order.items
