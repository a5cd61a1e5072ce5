use Rattle.std.proofs.Common.{◌≡◌, drop}
use Rattle.basics.specs.Reading.{each_numbered, with_prefix}
use Rattle.font_rules.specs.RuleNumbers.{pairs_of}
use Rattle.font_rules.proofs.numbers.all_pairs_of.Given as goal

abbrev pub invariant-loop-number : goal.invariant-loop-number
invariant-loop-number l = with_prefix l.subs (each_numbered (pairs_of l.path l.names.entries) l.number (drop l.number l.rules)) ≡ each_numbered (pairs_of l.path l.names.entries) 0 l.rules
