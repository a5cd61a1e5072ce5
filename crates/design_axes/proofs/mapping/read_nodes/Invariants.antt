use Rattle.std.proofs.Common.{◌≡◌, map, drop}
use Rattle.basics.specs.Reading.{each, with_prefix}
use Rattle.markup.specs.Plain.{plain}
use Rattle.design_axes.specs.Values.{node_of}
use Rattle.design_axes.proofs.mapping.read_nodes.Given as goal

abbrev pub invariant-loop-element : goal.invariant-loop-element
invariant-loop-element l =
    with_prefix l.nodes (each node_of (map (λ element. plain element.now) (drop l.element-index l.element-items))) ≡ each node_of (map (λ element. plain element.now) l.element-items)
