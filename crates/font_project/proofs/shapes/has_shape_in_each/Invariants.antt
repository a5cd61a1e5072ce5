use Rattle.std.proofs.Common.{◌≡◌, drop}
use Rattle.basics.specs.Reading.{all_pass}
use Rattle.font_project.specs.Shapes.{has_shape}
use Rattle.font_project.proofs.shapes.has_shape_in_each.Given as goal

abbrev pub invariant-loop-source : goal.invariant-loop-source
invariant-loop-source l = all_pass (has_shape l.default l.glyph l.name) 0 l.sources ≡ all_pass (has_shape l.default l.glyph l.name) l.source-index (drop l.source-index l.sources)
