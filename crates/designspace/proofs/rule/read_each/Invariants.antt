use Rattle.std.proofs.Common.{◌≡◌, map, drop}
use Rattle.basics.specs.Reading.{each_numbered, with_prefix}
use Rattle.markup.specs.Plain.{plain}
use Rattle.designspace.specs.Rules.{rule_of}
use Rattle.std.specs.Prelude.{All, length}
use Rattle.designspace.specs.Limits.{IsRuleOn}
use Rattle.designspace.proofs.rule.read_each.Given as goal

abbrev pub invariant-loop-number : goal.invariant-loop-number
invariant-loop-number l = record {
  exact : with_prefix l.list (each_numbered (rule_of l.axes) l.number (map (λ element. plain element.now) (drop l.number l.elements))) ≡ each_numbered (rule_of l.axes) 0 (map (λ element. plain element.now) l.elements);
  within : All (IsRuleOn (length l.axes)) l.list;
  count : length l.list ≡ l.number;
}
