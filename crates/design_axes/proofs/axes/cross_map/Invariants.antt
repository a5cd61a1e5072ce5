use Rattle.std.proofs.Common.{◌≡◌, map, drop}
use Rattle.std.specs.Prelude.{find}
use Rattle.markup.specs.Plain.{plain}
use Rattle.markup_rules.specs.Tree.{children_of}
use Rattle.design_axes.specs.Axes.{is_cross_map}
use Rattle.design_axes.proofs.axes.cross_map.Given as goal

abbrev pub invariant-loop-child : goal.invariant-loop-child
invariant-loop-child l =
    find is_cross_map (map plain (drop l.child-index l.child-items)) ≡ find is_cross_map (children_of (plain l.axes))
