use Rattle.std.proofs.Common.{◌≡◌, drop}
use Rattle.basics.specs.Reading.{all_pass}
use Rattle.font_project.specs.Shapes.{have_shapes, has_shape_in_each}
use Rattle.font_project.proofs.shapes.have_shapes.Given as goal

abbrev pub invariant-loop-glyph : goal.invariant-loop-glyph
invariant-loop-glyph l = have_shapes l.names l.default l.sources ≡ all_pass (has_shape_in_each l.default l.sources) l.glyph (drop l.glyph l.names)
