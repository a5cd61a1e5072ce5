use Rattle.std.proofs.Common.{◌*◌, ◌≤◌, length}
use Rattle.iup_optimal.specs.Tables.{TellsArcs}
use Rattle.iup_optimal.proofs.table.Table.new.Given as goal

abbrev pub invariant-loop-point : goal.invariant-loop-point
invariant-loop-point l = record {
  room : length l.points * length l.points ≤ 64 * length l.arcs.words.items;
  tells : TellsArcs l.points l.deltas (l.point * length l.points) l.arcs.words.items;
}
