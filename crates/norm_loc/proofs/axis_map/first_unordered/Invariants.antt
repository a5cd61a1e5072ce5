use Rattle.std.proofs.Common.{◌≡◌, ◌+◌, length}
use Rattle.norm_loc.specs.MapFaults.{unordered, unordered_after}
use Rattle.norm_loc.proofs.axis_map.first_unordered.Given as goal

-- the nodes that are left decide
abbrev pub invariant-loop-nodes : goal.invariant-loop-nodes
invariant-loop-nodes l = record {
  leads : unordered_after l.before l.number l.nodes ≡ unordered l.fn.nodes;
  count : l.number + length l.nodes ≡ length l.fn.nodes;
}

abbrev pub decreases-loop-nodes : goal.decreases-loop-nodes
decreases-loop-nodes l = length l.nodes
