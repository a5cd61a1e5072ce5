use Rattle.std.proofs.Common.{◌≡◌, drop}
use Rattle.designspace.specs.Dimensions.{axis_from}
use Rattle.designspace.proofs.dimension.axis_named.Given as goal

abbrev pub invariant-loop-number : goal.invariant-loop-number
invariant-loop-number l = axis_from l.number l.name (drop l.number l.axes) ≡ axis_from 0 l.name l.axes
