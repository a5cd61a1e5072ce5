use Rattle.std.proofs.Common.{◌≡◌, ◌+◌, ◌++◌, drop}
use Rattle.explicit_points.specs.ExplicitPoints.{moving_from}
use Rattle.explicit_points.proofs.named.push_moving.Given as goal

-- those that are left complete them
abbrev pub invariant-loop-index : goal.invariant-loop-index
invariant-loop-index l = l.named.items ++ moving_from (l.start + l.index) (drop l.index l.deltas) ≡ l.initial.named.items ++ moving_from l.start l.deltas
