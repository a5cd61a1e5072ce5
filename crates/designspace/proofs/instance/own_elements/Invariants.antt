use Rattle.std.proofs.Common.{◌≡◌, ◌++◌, map, filter, drop}
use Rattle.markup.specs.Plain.{plain}
use Rattle.designspace.specs.Instances.{is_own}
use Rattle.designspace.proofs.instance.own_elements.Given as goal

abbrev pub invariant-loop-element : goal.invariant-loop-element
invariant-loop-element l =
    map (λ element. plain element.now) l.own.items ++ filter is_own (map (λ element. plain element.now) (drop l.element-index l.elements)) ≡ filter is_own (map (λ element. plain element.now) l.elements)
