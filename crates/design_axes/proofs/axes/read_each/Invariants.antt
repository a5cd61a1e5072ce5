use Rattle.std.proofs.Common.{◌≡◌, [], map, drop}
use Rattle.basics.specs.Reading.{in_turn}
use Rattle.markup.specs.Plain.{plain}
use Rattle.design_axes.specs.Axes.{and_axis}
use Rattle.design_axes.proofs.axes.read_each.Given as goal

abbrev pub invariant-loop-element : goal.invariant-loop-element
invariant-loop-element l =
    in_turn and_axis l.axes (map (λ axis. plain axis.now) (drop l.element-index l.elements)) ≡ in_turn and_axis [] (map (λ axis. plain axis.now) l.elements)
