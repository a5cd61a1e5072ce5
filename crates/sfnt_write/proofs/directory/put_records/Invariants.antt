use Rattle.std.proofs.Common.{◌≡◌, ◌≤◌, ◌<◌, ◌+◌, ◌*◌, ◌%◌, ◌^◌, ◌++◌, length, map, take, drop}
use Rattle.std.specs.Prelude.{All}
use Rattle.std.specs.List.{flat_map}
use Rattle.sfnt_write.specs.Layout.{record_bytes, records_from, tables_offset}
use Rattle.sfnt_write.specs.Steps.{FitsTag, tables_sum}
use Rattle.sfnt_write.specs.Tables.{slice_of, total_size}
use Rattle.sfnt_write.proofs.directory.put_records.Given as goal

-- The records so far and those that are left are all records, and so are the sums; what is left has room.
abbrev pub invariant-loop-table : goal.invariant-loop-table
invariant-loop-table l = record {
  written : l.out.items ++ flat_map record_bytes (records_from l.offset (map slice_of (drop l.table-index l.tables))) ≡ l.initial.out.items ++ flat_map record_bytes (records_from (tables_offset (length l.tables)) (map slice_of l.tables));
  sum : (l.sum + tables_sum (map slice_of (drop l.table-index l.tables))) % 2 ^ 32 ≡ tables_sum (map slice_of l.tables) % 2 ^ 32;
  small : total_size (map slice_of (drop l.table-index l.tables)) < 2 ^ 31;
  room : l.offset + total_size (map slice_of (drop l.table-index l.tables)) + 3 * length (drop l.table-index l.tables) ≤ 620 + 2 ^ 31;
  fit : All FitsTag (map slice_of (take l.table-index l.tables));
}
