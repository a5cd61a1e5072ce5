use Rattle.std.proofs.Common.{◌≡◌, map, drop}
use Rattle.basics.specs.Reading.{in_turn}
use Rattle.markup.specs.Plain.{plain}
use Rattle.glif.specs.Glyphs.{child_of, nothing_seen}
use Rattle.glif.proofs.glyph.read_children.Given as goal

abbrev pub invariant-loop-element : goal.invariant-loop-element
invariant-loop-element l =
    in_turn child_of l.seen (map plain (drop l.element-index l.elements)) ≡ in_turn child_of nothing_seen (map plain l.elements)
