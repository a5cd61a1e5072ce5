use Rattle.std.proofs.Common.{◌≡◌, ◌+◌, map, drop}
use Rattle.basics.specs.Reading.{each_numbered, with_prefix}
use Rattle.markup.specs.Plain.{plain}
use Rattle.designspace.specs.Instances.{instance_of}
use Rattle.std.specs.Prelude.{All, length}
use Rattle.designspace.specs.Limits.{IsInstanceOn}
use Rattle.designspace.proofs.instance.read_each.Given as goal

abbrev pub invariant-loop-index : goal.invariant-loop-index
invariant-loop-index l = record {
  exact : with_prefix l.instances (each_numbered (instance_of l.axes) (l.index + 1) (map (λ element. plain element.now) (drop l.index l.elements))) ≡ each_numbered (instance_of l.axes) 1 (map (λ element. plain element.now) l.elements);
  within : All (IsInstanceOn (length l.axes)) l.instances;
  count : length l.instances ≡ l.index;
}
