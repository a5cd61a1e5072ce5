use Rattle.std.proofs.Common.{◌≡◌, drop}
use Rattle.region_support.specs.Coordinates.{coordinates_of}
use Rattle.region_support.specs.Regions.{cut_by_all, first_from}
use Rattle.region_support.proofs.support.write_region.Given as goal

-- the masters that are left complete it
abbrev pub invariant-loop-other : goal.invariant-loop-other
invariant-loop-other l = cut_by_all l.region (coordinates_of (drop l.other-index l.earlier)) ≡ cut_by_all (first_from (coordinates_of l.masters) 0 l.at.items) (coordinates_of l.earlier)
