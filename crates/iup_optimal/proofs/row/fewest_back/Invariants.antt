use Rattle.std.proofs.Common.{◌+◌, ◌-◌, ◌<◌, ◌≤◌}
use Rattle.iup_optimal.specs.Steps.{Steps}
use Rattle.iup_optimal.proofs.RowLemmas.{FewestBack}
use Rattle.iup_optimal.proofs.row.fewest_back.Given as goal

abbrev pub invariant-loop-to : goal.invariant-loop-to
invariant-loop-to l = record {
  found : FewestBack (Steps l.table) l.from l.end l.row l.low l.fewest;
  small : l.fewest ≤ l.back;
  after : l.from < l.low;
  within : l.low ≤ l.end + 1;
}

abbrev pub decreases-loop-to : goal.decreases-loop-to
decreases-loop-to l = l.end + 1 - l.low
