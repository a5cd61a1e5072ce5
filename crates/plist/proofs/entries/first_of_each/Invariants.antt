use Rattle.std.proofs.Common.{◌≡◌, ◌++◌}
use Rattle.std.specs.Vec.Iter.{into_iter_items}
use Rattle.plist.specs.Entries.{firsts}
use Rattle.plist.proofs.EqualKeys.{has, unseen}
use Rattle.plist.proofs.entries.first_of_each.Given as goal

abbrev pub invariant-loop-entry : goal.invariant-loop-entry
invariant-loop-entry l = l.kept.items ++ unseen (has l.keys) (into_iter_items l.entry-iterator) ≡ firsts l.fn.entries.items
