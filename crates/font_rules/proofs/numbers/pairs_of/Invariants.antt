use Rattle.std.proofs.Common.{◌≡◌, drop}
use Rattle.basics.specs.Reading.{each_numbered, with_prefix}
use Rattle.font_rules.specs.RuleNumbers.{pair_of}
use Rattle.font_rules.proofs.numbers.pairs_of.Given as goal

abbrev pub invariant-loop-sub : goal.invariant-loop-sub
invariant-loop-sub l = with_prefix l.pairs (each_numbered (pair_of l.path l.names.entries l.number) l.sub (drop l.sub l.pair-items)) ≡ each_numbered (pair_of l.path l.names.entries l.number) 0 l.pair-items
