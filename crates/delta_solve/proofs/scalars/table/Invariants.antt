use Rattle.std.proofs.Common.{◌≡◌, ◌++◌, length, take, drop}
use Rattle.region_support.specs.Coordinates.{coordinates_of, regions_in}
use Rattle.delta_solve.specs.Deltas.{rows_of, rows_after}
use Rattle.delta_solve.specs.Tables.{AreRows}
use Rattle.delta_solve.proofs.scalars.table.Given as goal

-- the masters that are left complete the rows
abbrev pub invariant-loop-master : goal.invariant-loop-master
invariant-loop-master l = record {
  count : length l.rows.items ≡ l.master;
  are : AreRows l.rows.items;
  rest : l.rows.items ++ rows_after (regions_in (take l.master l.supports-2)) (regions_in (drop l.master l.supports-2)) (coordinates_of (drop l.master l.sorted-2)) ≡ rows_of (regions_in l.supports-2) (coordinates_of l.sorted-2);
}
