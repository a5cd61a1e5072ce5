use Rattle.std.proofs.Common.{◌≡◌, drop}
use Rattle.std.specs.List.{position_from}
use Rattle.region_support.specs.Coordinates.{coordinates_of}
use Rattle.region_support.specs.Sorting.{is_same_location}
use Rattle.region_support.proofs.sorting.first_same.Given as goal

-- the locations that are left decide
abbrev pub invariant-loop-number : goal.invariant-loop-number
invariant-loop-number l = position_from (is_same_location l.at.items) l.number (coordinates_of (drop l.number l.earlier)) ≡ position_from (is_same_location l.at.items) 0 (coordinates_of l.earlier)
