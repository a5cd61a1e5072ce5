use Rattle.std.proofs.Common.{◌≡◌, ◌++◌, take}
use Rattle.compat.specs.Flattened.{moved_contours}
use Rattle.compat.proofs.flat.index.Given as goal

abbrev pub invariant-loop-points : goal.invariant-loop-points
invariant-loop-points l = l.contours.items ≡ l.fn.contours.items ++ moved_contours l.component (take l.points-index l.base)
