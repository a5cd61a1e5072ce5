use Rattle.std.proofs.Common.{◌≡◌, map, drop}
use Rattle.basics.specs.Reading.{each, with_prefix}
use Rattle.markup.specs.Plain.{plain}
use Rattle.designspace.specs.Conditions.{condition_of}
use Rattle.std.specs.Prelude.{All, length}
use Rattle.designspace.specs.Limits.{IsConditionOn}
use Rattle.designspace.proofs.condition.read_each.Given as goal

abbrev pub invariant-loop-element : goal.invariant-loop-element
invariant-loop-element l = record {
  exact : with_prefix l.set (each (condition_of l.axes) (map (λ element. plain element.now) (drop l.element-index l.elements))) ≡ each (condition_of l.axes) (map (λ element. plain element.now) l.elements);
  within : All (IsConditionOn (length l.axes)) l.set;
}
