use Rattle.std.proofs.Common.{◌≡◌, drop}
use Rattle.font_project.specs.Codes.{with_codes}
use Rattle.font_project.proofs.codes.put_codes.Given as goal

abbrev pub invariant-loop-code : goal.invariant-loop-code
invariant-loop-code l = with_codes l.map.entries l.glyph (drop l.code-index l.own) ≡ with_codes l.fn.map.entries l.glyph l.own
