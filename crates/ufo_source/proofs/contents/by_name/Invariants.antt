use Rattle.std.proofs.Common.{◌≡◌}
use Rattle.std.specs.List.{fold}
use Rattle.std.specs.BTreeMap.{insert_entry}
use Rattle.std.specs.Cmp.Lexicographic.{slice_cmp}
use Rattle.std.specs.Ordering.{nat_cmp}
use Rattle.std.specs.Vec.Iter.{into_iter_items}
use Rattle.ufo_source.specs.Contents.{in_byte_order}
use Rattle.ufo_source.proofs.contents.by_name.Given as goal

abbrev pub invariant-loop-name : goal.invariant-loop-name
invariant-loop-name l = fold (λ ordered entry. insert_entry (slice_cmp nat_cmp) ordered entry.0 entry.1) l.files.entries (into_iter_items l.name-iterator) ≡ in_byte_order l.fn.entries.items
