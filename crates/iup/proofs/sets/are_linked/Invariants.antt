use Rattle.std.proofs.Common.{◌+◌, ◌<◌, ◌≤◌, ◌↔◌, length, drop}
use Rattle.iup.specs.Arcs.{Links, RisesFrom}
use Rattle.iup.proofs.sets.are_linked.Given as goal

-- the links of all members hold exactly where those of the members left do
abbrev pub invariant-loop-next : goal.invariant-loop-next
invariant-loop-next l = record {
  inside : l.from < length l.points;
  reached : l.first ≤ l.from;
  rises : RisesFrom (l.from + 1) (length l.points) (drop l.next-index l.members);
  whole : Links l.points l.deltas l.from (drop l.next-index l.members) l.end ↔ Links l.points l.deltas l.first l.members l.end;
}
