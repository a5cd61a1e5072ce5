use Rattle.std.proofs.Common.{ℕ, ◌-◌, ◌≤◌, ◌++◌, List}
use Rattle.iup_optimal.specs.Steps.{Steps}
use Rattle.iup_optimal.specs.Ways.{Walks}
use Rattle.iup_optimal.proofs.way.walk.Given as goal

abbrev pub invariant-loop-at : goal.invariant-loop-at
invariant-loop-at l = record {
  low : l.first ≤ l.at;
  high : l.at ≤ l.end;
  so_far : (zs : List ℕ) → Walks (Steps l.table) l.left l.end l.at zs → Walks (Steps l.table) l.left l.end l.first (l.points.items ++ zs);
}

abbrev pub decreases-loop-at : goal.decreases-loop-at
decreases-loop-at l = l.end - l.at
