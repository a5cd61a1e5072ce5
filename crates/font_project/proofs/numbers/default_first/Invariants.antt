use Rattle.std.proofs.Common.{◌≡◌, ◌++◌, ◌-◌, ◌∷◌}
use Rattle.font_project.specs.Numbers.{others_from}
use Rattle.font_project.proofs.numbers.default_first.Given as goal

abbrev pub invariant-loop-number : goal.invariant-loop-number
invariant-loop-number l = l.numbers.items ++ others_from l.default (l.count - l.number) l.number ≡ l.default ∷ others_from l.default l.count 0
