use Rattle.std.proofs.Common.{◌≡◌, ◌+◌, ◌++◌, drop}
use Rattle.font_tables.specs.FontAxes.{axes_from}
use Rattle.font_tables.specs.FontNames.{FIRST}
use Rattle.font_tables.proofs.axes.axis_records.Given as goal

abbrev pub invariant-loop-axis : goal.invariant-loop-axis
invariant-loop-axis l = record {
  id : l.id ≡ FIRST + l.axis-index;
  so_far : l.records ++ axes_from l.id (drop l.axis-index l.axes) ≡ axes_from FIRST l.axes;
}
