use Rattle.std.proofs.Common.{◌≡◌, ◌++◌, drop}
use Rattle.region_support.specs.Coordinates.{coordinates_of}
use Rattle.region_support.specs.Sorting.{locations_at}
use Rattle.region_support.proofs.sorting.in_order.Given as goal

-- the numbers that are left complete them
abbrev pub invariant-loop-number : goal.invariant-loop-number
invariant-loop-number l = coordinates_of l.sorted ++ locations_at (coordinates_of l.locations) (drop l.number-index l.numbers) ≡ locations_at (coordinates_of l.locations) l.numbers
