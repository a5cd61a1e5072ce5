use Rattle.std.proofs.Common.{◌≡◌, [], drop}
use Rattle.font_project.specs.Codes.{codes_from}
use Rattle.font_project.proofs.codes.code_map.Given as goal

abbrev pub invariant-loop-glyph : goal.invariant-loop-glyph
invariant-loop-glyph l = codes_from l.map.entries l.glyph (drop l.glyph l.drawings) ≡ codes_from [] 0 l.drawings
