use Rattle.std.proofs.Common.{◌≡◌, drop}
use Rattle.region_support.specs.MasterOrder.{is_axis_point}
use Rattle.region_support.specs.Coordinates.{coordinates_of}
use Rattle.region_support.proofs.key.is_axis_point.Given as goal

-- the masters that are left decide
abbrev pub invariant-loop-other : goal.invariant-loop-other
invariant-loop-other l = is_axis_point (coordinates_of (drop l.other-index l.masters)) l.axis l.value ≡ is_axis_point (coordinates_of l.masters) l.axis l.value
