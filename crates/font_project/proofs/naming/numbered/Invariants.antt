use Rattle.std.proofs.Common.{◌≡◌, take}
use Rattle.font_model.specs.Fonts.{numbered}
use Rattle.font_project.proofs.naming.numbered.Given as goal

abbrev pub invariant-loop-number : goal.invariant-loop-number
invariant-loop-number l = l.found.entries ≡ numbered 0 (take l.number l.names)
