use Rattle.std.proofs.Common.{◌≡◌, map, drop}
use Rattle.basics.specs.Reading.{each, with_prefix}
use Rattle.markup.specs.Plain.{plain}
use Rattle.designspace.specs.Dimensions.{dimension_of}
use Rattle.designspace.proofs.dimension.read_each.Given as goal

abbrev pub invariant-loop-element : goal.invariant-loop-element
invariant-loop-element l =
    with_prefix l.dimensions (each (dimension_of l.axes) (map (λ element. plain element.now) (drop l.element-index l.elements))) ≡ each (dimension_of l.axes) (map (λ element. plain element.now) l.elements)
