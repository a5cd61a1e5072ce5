use Rattle.std.proofs.Common.{◌≡◌, ◌+◌, ◌++◌, map, take}
use Rattle.explicit_points.proofs.named.push_contour.Given as goal

abbrev pub invariant-loop-point : goal.invariant-loop-point
invariant-loop-point l = l.named.items ≡ l.initial.named.items ++ map (λ point. l.start + point) (take l.point-index l.set)
