use Rattle.std.proofs.Common.{◌≡◌, ◌++◌}
use Rattle.std.specs.Vec.Iter.{into_iter_items}
use Rattle.font_project.specs.Presence.{drawn_sources}
use Rattle.font_project.proofs.drawn.drawn_sources.Given as goal

abbrev pub invariant-loop-source : goal.invariant-loop-source
invariant-loop-source l = l.drawn ++ drawn_sources (into_iter_items l.source-iterator) ≡ drawn_sources l.fn.sources
