use Rattle.std.proofs.Common.{◌≡◌, ◌++◌}
use Rattle.std.specs.Vec.Iter.{into_iter_items}
use Rattle.font_project.specs.Presence.{drawings_in}
use Rattle.font_project.proofs.drawn.drawings_in.Given as goal

abbrev pub invariant-loop-glyph : goal.invariant-loop-glyph
invariant-loop-glyph l = l.drawings ++ drawings_in (into_iter_items l.glyph-iterator) ≡ drawings_in l.fn.glyphs
