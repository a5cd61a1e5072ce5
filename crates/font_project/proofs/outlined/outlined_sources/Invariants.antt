use Rattle.std.proofs.Common.{◌≡◌, ◌++◌}
use Rattle.std.specs.Vec.Iter.{into_iter_items}
use Rattle.font_project.specs.Outlining.{outlined_sources}
use Rattle.font_project.proofs.outlined.outlined_sources.Given as goal

abbrev pub invariant-loop-source : goal.invariant-loop-source
invariant-loop-source l = l.outlined ++ outlined_sources (into_iter_items l.source-iterator) ≡ outlined_sources l.fn.sources
