use Rattle.std.proofs.Common.{◌≡◌, []}
use Rattle.compat.specs.Walks.{IsWalk, AreSeen}
use Rattle.compat.proofs.order.order_of.Given as goal

abbrev pub invariant-loop-root : goal.invariant-loop-root
invariant-loop-root l = IsWalk l.graph l.walk.nodes.items l.walk.path.items l.walk.order.items × (l.walk.path.items ≡ []) × AreSeen l.walk.nodes.items l.root
