use Rattle.std.proofs.Common.{◌≡◌, drop}
use Rattle.compat.specs.Differences.{contours_difference}
use Rattle.compat.proofs.compared.contours_difference.Given as goal

abbrev pub invariant-loop-number : goal.invariant-loop-number
invariant-loop-number l = contours_difference l.number (drop l.number l.contours) (drop l.number l.others) ≡ contours_difference 0 l.contours l.others
