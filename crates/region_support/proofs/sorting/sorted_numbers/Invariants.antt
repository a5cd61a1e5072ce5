use Rattle.std.proofs.Common.{◌≡◌, ◌++◌, drop}
use Rattle.region_support.specs.Coordinates.{coordinates_of}
use Rattle.region_support.proofs.KeyLemmas.{keys_from}
use Rattle.region_support.proofs.sorting.sorted_numbers.Given as goal

-- the locations that are left complete the keys
abbrev pub invariant-loop-number : goal.invariant-loop-number
invariant-loop-number l = l.keys.items ++ keys_from (coordinates_of l.locations) l.number (coordinates_of (drop l.number l.locations)) ≡ keys_from (coordinates_of l.locations) 0 (coordinates_of l.locations)
