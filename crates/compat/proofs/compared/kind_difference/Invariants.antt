use Rattle.std.proofs.Common.{◌≡◌, drop}
use Rattle.compat.specs.Differences.{kind_difference}
use Rattle.compat.proofs.compared.kind_difference.Given as goal

abbrev pub invariant-loop-number : goal.invariant-loop-number
invariant-loop-number l = kind_difference l.contour l.number (drop l.number l.points) (drop l.number l.others) ≡ kind_difference l.contour 0 l.points l.others
