use Rattle.std.proofs.Common.{◌≤◌, ◌+◌}
use Rattle.iup_optimal.specs.Steps.{count}
use Rattle.iup_optimal.proofs.starts.best_pivot.Given as goal

abbrev pub invariant-loop-place : goal.invariant-loop-place
invariant-loop-place l = l.farthest ≤ l.place + count l.table
