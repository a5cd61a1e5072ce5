use Rattle.std.proofs.Common.{length}
use Rattle.norm_loc.specs.Following.{followed_after}
use Rattle.norm_loc.proofs.Lines.{IsAt}
use Rattle.norm_loc.proofs.follow.followed_after.Given as goal

-- the number is at or above the node, and the nodes that are left lead to the whole's value
abbrev pub invariant-loop-nodes : goal.invariant-loop-nodes
invariant-loop-nodes g l = IsAt l.direction l.x l.y l.nodes l.v (followed_after l.direction l.fn.node l.fn.nodes l.v)

abbrev pub decreases-loop-nodes : goal.decreases-loop-nodes
decreases-loop-nodes g l = length l.nodes
