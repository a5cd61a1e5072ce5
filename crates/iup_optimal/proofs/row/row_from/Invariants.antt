use Rattle.std.proofs.Common.{◌≡◌, ℕ, ◌<◌, length, get_or}
use Rattle.iup_optimal.specs.Rows.{IsRowVia}
use Rattle.iup_optimal.specs.Steps.{Steps, count}
use Rattle.iup_optimal.proofs.row.row_from.Given as goal

abbrev pub invariant-loop-place : goal.invariant-loop-place
invariant-loop-place l = record {
  size : length l.row.items ≡ l.place;
  plain : (a : ℕ) → a < l.place → get_or l.row.items a 0 ≡ a;
}

abbrev pub invariant-loop-from : goal.invariant-loop-from
invariant-loop-from l = IsRowVia (Steps l.table) l.start (count l.table) l.from l.row.items
