use Rattle.std.proofs.Common.{◌≡◌, drop}
use Rattle.basics.specs.Reading.{all_pass}
use Rattle.font_project.specs.Presence.{is_in_each, are_there}
use Rattle.font_project.proofs.presence.are_there.Given as goal

abbrev pub invariant-loop-glyph : goal.invariant-loop-glyph
invariant-loop-glyph l = are_there l.sources l.names ≡ all_pass (is_in_each l.sources) l.glyph (drop l.glyph l.names)
