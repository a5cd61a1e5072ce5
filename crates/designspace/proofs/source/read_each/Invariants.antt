use Rattle.std.proofs.Common.{◌≡◌, map, drop}
use Rattle.basics.specs.Reading.{each, with_prefix}
use Rattle.markup.specs.Plain.{plain}
use Rattle.designspace.specs.Sources.{source_of}
use Rattle.std.specs.Prelude.{All, length}
use Rattle.designspace.specs.Limits.{IsSourceOn}
use Rattle.designspace.proofs.source.read_each.Given as goal

abbrev pub invariant-loop-element : goal.invariant-loop-element
invariant-loop-element l = record {
  exact : with_prefix l.sources (each (source_of l.folder l.axes) (map (λ element. plain element.now) (drop l.element-index l.elements))) ≡ each (source_of l.folder l.axes) (map (λ element. plain element.now) l.elements);
  within : All (IsSourceOn (length l.axes)) l.sources;
  count : length l.sources ≡ l.element-index;
}
