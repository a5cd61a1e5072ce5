use Rattle.std.proofs.Common.{◌≡◌, ◌+◌, ◌<◌, ◌^◌, map, drop}
use Rattle.sfnt_write.specs.Tables.{slice_of, total_size}
use Rattle.font_build.proofs.list.are_small.Given as goal

abbrev pub invariant-loop-table : goal.invariant-loop-table
invariant-loop-table l = record {
  so_far : l.size + total_size (map slice_of (drop l.table-index l.tables)) ≡ total_size (map slice_of l.tables);
  small : l.size < 2 ^ 31;
}
