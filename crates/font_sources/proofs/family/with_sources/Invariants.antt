use Rattle.std.proofs.Common.{◌≡◌, ◌∷◌, ◌++◌}
use Rattle.std.specs.Vec.Iter.{into_iter_items}
use Rattle.font_sources.proofs.family.with_sources.Given as goal

abbrev pub invariant-loop-next : goal.invariant-loop-next
invariant-loop-next l = l.all ++ into_iter_items l.next-iterator ≡ l.fn.before ++ (l.fn.source ∷ l.fn.after)
