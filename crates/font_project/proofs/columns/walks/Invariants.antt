use Rattle.std.proofs.Common.{◌≡◌, ◌++◌, map}
use Rattle.std.specs.Vec.Iter.{into_iter_items}
use Rattle.font_project.proofs.columns.walks.Given as goal

abbrev pub invariant-loop-row : goal.invariant-loop-row
invariant-loop-row l = map into_iter_items l.walks.items ++ into_iter_items l.row-iterator ≡ l.fn.rows.items
