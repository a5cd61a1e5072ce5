use Rattle.std.proofs.Common.{◌≡◌, ◌+◌, ◌-◌, ◌*◌, length}
use Rattle.iup_optimal.specs.Tables.{TellsArcs}
use Rattle.iup_optimal.specs.Views.{SeenTo}
use Rattle.iup_optimal.proofs.table.insert_arcs.Given as goal

abbrev pub invariant-loop-to : goal.invariant-loop-to
invariant-loop-to l = record {
  room : length l.arcs.words.items ≡ length l.initial.arcs.words.items;
  tells : TellsArcs l.points l.deltas (l.from * length l.points + (l.to - l.from - 1)) l.arcs.words.items;
  seen : SeenTo l.points l.deltas l.from l.to l.view;
}
