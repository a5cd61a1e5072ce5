use Rattle.std.proofs.Common.{◌≡◌, map, drop}
use Rattle.basics.specs.Reading.{in_turn}
use Rattle.markup.specs.Plain.{plain}
use Rattle.markup_rules.specs.Tree.{children_of}
use Rattle.glif.specs.Glyphs.{no_shapes, shape_of}
use Rattle.glif.proofs.outline.read_outline.Given as goal

abbrev pub invariant-loop-element : goal.invariant-loop-element
invariant-loop-element l =
    in_turn shape_of l.shapes (map plain (drop l.element-index l.element-items)) ≡ in_turn shape_of no_shapes (children_of (plain l.outline))
