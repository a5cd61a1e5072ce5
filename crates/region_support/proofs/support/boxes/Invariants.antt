use Rattle.std.proofs.Common.{◌≡◌, ◌++◌, take, drop}
use Rattle.region_support.specs.Coordinates.{coordinates_of, regions_in}
use Rattle.region_support.specs.Regions.{regions_after, regions_of}
use Rattle.region_support.proofs.support.boxes.Given as goal

-- the masters that are left complete it
abbrev pub invariant-loop-index : goal.invariant-loop-index
invariant-loop-index l = regions_in l.supports ++ regions_after (coordinates_of l.masters) (coordinates_of (take l.index l.masters)) (coordinates_of (drop l.index l.masters)) ≡ regions_of (coordinates_of l.masters)
