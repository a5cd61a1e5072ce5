use Rattle.std.proofs.Common.{◌≡◌, ◌++◌}
use Rattle.font_project.proofs.codes.codes_of.Given as goal

abbrev pub invariant-loop-code : goal.invariant-loop-code
invariant-loop-code l = l.codes ++ l.code-iterator ≡ l.initial.code-iterator
