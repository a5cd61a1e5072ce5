use Rattle.std.proofs.Common.{◌≤◌, ◌+◌, ◌-◌}
use Rattle.iup_optimal.specs.Steps.{count}
use Rattle.iup_optimal.proofs.starts.farthest_from.Given as goal

abbrev pub invariant-loop-end : goal.invariant-loop-end
invariant-loop-end l = record {
  ahead : l.place ≤ l.farthest;
  within : l.farthest ≤ l.place + count l.table;
}

abbrev pub decreases-loop-end : goal.decreases-loop-end
decreases-loop-end l = l.place + count l.table - l.farthest
