use Rattle.std.proofs.Common.{◌≡◌, map, drop}
use Rattle.basics.specs.Reading.{in_turn}
use Rattle.markup.specs.Plain.{plain}
use Rattle.designspace.specs.Rules.{child_of, nothing_sorted}
use Rattle.std.specs.Prelude.{length}
use Rattle.designspace.specs.Limits.{IsSortedOn}
use Rattle.designspace.proofs.sets.read_children.Given as goal

abbrev pub invariant-loop-child : goal.invariant-loop-child
invariant-loop-child l = record {
  exact : in_turn (child_of l.axes) l.sorted (map plain (drop l.child-index l.children)) ≡ in_turn (child_of l.axes) nothing_sorted (map plain l.children);
  within : IsSortedOn (length l.axes) l.sorted;
}
