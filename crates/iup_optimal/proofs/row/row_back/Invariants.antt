use Rattle.std.proofs.Common.{◌≡◌, length}
use Rattle.iup_optimal.specs.Rows.{IsRowBack}
use Rattle.iup_optimal.specs.Steps.{Steps}
use Rattle.iup_optimal.proofs.row.row_back.Given as goal

abbrev pub invariant-loop-back : goal.invariant-loop-back
invariant-loop-back l = record {
  size : length l.row.items ≡ l.back;
  so_far : IsRowBack (Steps l.table) l.end l.row.items;
}
