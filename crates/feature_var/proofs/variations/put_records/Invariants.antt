use Rattle.std.proofs.Common.{◌≡◌, ◌+◌, ◌*◌, ◌++◌, ◌≤◌, length, drop}
use Rattle.std.specs.List.{flat_map}
use Rattle.feature_var.specs.Layout.{record_bytes, records_from}
use Rattle.feature_var.proofs.variations.put_records.Given as goal

-- the records so far, and those that are left, whose blocks begin at the place
abbrev pub invariant-loop-cell : goal.invariant-loop-cell
invariant-loop-cell l = record {
  place : l.place ≤ 8 + 8 * length l.cells + 242 * l.cell-index;
  out : l.out.items ++ flat_map record_bytes (records_from l.place (drop l.cell-index l.cells)) ≡ l.initial.out.items ++ flat_map record_bytes (records_from (8 + 8 * length l.cells) l.cells);
}
