use Rattle.std.proofs.Common.{◌≡◌, take}
use Rattle.font_rules.specs.RuleNumbers as words
use Rattle.font_rules.proofs.boxes.sets_of.Given as goal

abbrev pub invariant-loop-rule : goal.invariant-loop-rule
invariant-loop-rule l = l.sets ≡ words.sets_of (take l.rule-index l.rules)
