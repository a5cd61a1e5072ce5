use Rattle.std.proofs.Common.{◌≡◌, ◌++◌, map}
use Rattle.std.specs.Vec.Iter.{into_iter_items}
use Rattle.ufo_source.proofs.folder.names_of.Given as goal

abbrev pub invariant-loop-name : goal.invariant-loop-name
invariant-loop-name l = l.names ++ map (λ entry. entry.0) (into_iter_items l.name-iterator) ≡ map (λ entry. entry.0) l.fn.entries
