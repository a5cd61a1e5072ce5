use Rattle.std.proofs.Common.{◌≡◌, ◌++◌, drop}
use Rattle.rule_boxes.specs.Merging.{numbers_from}
use Rattle.rule_boxes.proofs.cells_of.numbers_of.Given as goal

-- the flags that are left complete the numbers
abbrev pub invariant-loop-number : goal.invariant-loop-number
invariant-loop-number l = l.numbers ++ numbers_from l.number (drop l.number l.flags) ≡ numbers_from 0 l.flags
