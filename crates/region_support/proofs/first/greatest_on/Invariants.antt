use Rattle.std.proofs.Common.{◌≡◌, map, fold, drop}
use Rattle.std.specs.Int.{int_max}
use Rattle.region_support.specs.Coordinates.{coordinates_of}
use Rattle.region_support.specs.MasterOrder.{value_on}
use Rattle.region_support.specs.Regions.{greatest_on}
use Rattle.region_support.proofs.first.greatest_on.Given as goal

-- the masters that are left complete it
abbrev pub invariant-loop-location : goal.invariant-loop-location
invariant-loop-location l = fold int_max l.greatest (map (value_on l.axis) (coordinates_of (drop l.location-index l.masters))) ≡ greatest_on (coordinates_of l.masters) l.axis
