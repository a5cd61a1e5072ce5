use Rattle.std.proofs.Common.{◌≡◌, ◌++◌, take, drop}
use Rattle.region_support.specs.Coordinates.{coordinates_of}
use Rattle.region_support.specs.Regions.{first_from}
use Rattle.region_support.proofs.first.first_region.Given as goal

-- the axes that are left complete it
abbrev pub invariant-loop-axis : goal.invariant-loop-axis
invariant-loop-axis l = take l.axis l.region ++ first_from (coordinates_of l.masters) l.axis (drop l.axis l.at) ≡ first_from (coordinates_of l.masters) 0 l.at
