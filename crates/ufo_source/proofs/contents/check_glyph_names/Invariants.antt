use Rattle.std.proofs.Common.{◌≡◌, drop}
use Rattle.basics.specs.Reading.{all_pass}
use Rattle.ufo_source.specs.Contents.{glyph_name, glyph_names}
use Rattle.ufo_source.proofs.contents.check_glyph_names.Given as goal

abbrev pub invariant-loop-position : goal.invariant-loop-position
invariant-loop-position l = all_pass glyph_name l.position (drop l.position l.entries) ≡ glyph_names l.entries
