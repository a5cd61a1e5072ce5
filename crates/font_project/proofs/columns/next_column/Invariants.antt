use Rattle.std.proofs.Common.{◌≡◌, ◌++◌, map}
use Rattle.std.specs.Vec.Iter.{into_iter_items}
use Rattle.font_project.specs.Columns.{first_or_nothing, rest_of}
use Rattle.font_project.proofs.columns.next_column.Given as goal

abbrev pub invariant-loop-walk : goal.invariant-loop-walk
invariant-loop-walk l = record {
  here : l.outlines ++ map first_or_nothing (map into_iter_items (into_iter_items l.walk-iterator)) ≡ map first_or_nothing (map into_iter_items l.fn.walks.items);
  rest : map into_iter_items l.rest.items ++ map rest_of (map into_iter_items (into_iter_items l.walk-iterator)) ≡ map rest_of (map into_iter_items l.fn.walks.items);
}
