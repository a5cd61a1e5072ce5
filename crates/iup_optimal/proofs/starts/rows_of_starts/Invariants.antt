use Rattle.iup_optimal.specs.Rows.{AreRowsTo}
use Rattle.iup_optimal.proofs.starts.rows_of_starts.Given as goal

abbrev pub invariant-loop-point : goal.invariant-loop-point
invariant-loop-point l = AreRowsTo l.table.points.now l.table.deltas.now l.pivot l.point l.rows.items
