use Rattle.std.proofs.Common.{List, ◌++◌, All}
use Rattle.std.specs.Vec.Iter.{into_iter_items}
use Rattle.compat.specs.Flattened.{AreFit}
use Rattle.font_project.specs.Flats.{AreFlatSources}
use Rattle.font_project.specs.declared.drawn.DrawnSource.{DrawnSource}
use Rattle.font_project.specs.declared.flat.FlatSource.{FlatSource}
use Rattle.font_project.proofs.flat.flat_sources.Given as goal

-- what flattening gives of those that are left completes the whole
abbrev pub invariant-loop-source : goal.invariant-loop-source
invariant-loop-source l = record {
  fit : All (λ (source : DrawnSource). AreFit source.drawings) (into_iter_items l.source-iterator);
  flat : (rest : List FlatSource) → AreFlatSources (into_iter_items l.source-iterator) rest → AreFlatSources l.fn.drawn (l.sources ++ rest);
}
