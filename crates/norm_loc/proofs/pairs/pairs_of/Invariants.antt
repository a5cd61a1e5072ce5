use Rattle.std.proofs.Common.{◌≡◌, drop}
use Rattle.norm_loc.specs.declared.follow.Direction.TheVariants.{Forward}
use Rattle.norm_loc.specs.AvarPairs.{fixed_pairs, with_nodes}
use Rattle.norm_loc.specs.Following.{KeysRise}
use Rattle.norm_loc.specs.MapFaults.{against}
use Rattle.norm_loc.specs.Spans.{limits}
use Rattle.norm_loc.proofs.pairs.pairs_of.Given as goal

-- the pairs so far rise, and with the nodes that are left lead to the whole
abbrev pub invariant-loop-index : goal.invariant-loop-index
invariant-loop-index l = record {
  rise : KeysRise Forward l.pairs.items;
  leads : with_nodes (limits l.user) (limits l.design) l.pairs.items (drop l.index l.nodes) ≡ with_nodes (limits l.user) (limits l.design) fixed_pairs l.nodes;
  alone : against (limits l.user) (limits l.design) l.pairs.items l.index (drop l.index l.nodes) ≡ against (limits l.user) (limits l.design) fixed_pairs 0 l.nodes;
}
