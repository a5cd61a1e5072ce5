use Rattle.std.proofs.Common.{◌≡◌, map, drop}
use Rattle.basics.specs.Reading.{each, with_prefix}
use Rattle.markup.specs.Plain.{plain}
use Rattle.designspace.specs.Rules.{sub_of}
use Rattle.std.specs.Prelude.{length}
use Rattle.designspace.proofs.rule.read_subs.Given as goal

abbrev pub invariant-loop-element : goal.invariant-loop-element
invariant-loop-element l = record {
  exact : with_prefix l.subs (each sub_of (map (λ element. plain element.now) (drop l.element-index l.elements))) ≡ each sub_of (map (λ element. plain element.now) l.elements);
  count : length l.subs ≡ l.element-index;
}
