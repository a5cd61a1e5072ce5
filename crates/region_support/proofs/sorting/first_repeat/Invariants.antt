use Rattle.std.proofs.Common.{◌≡◌, [], take, drop}
use Rattle.region_support.specs.Coordinates.{coordinates_of}
use Rattle.region_support.specs.Sorting.{first_repeat}
use Rattle.region_support.proofs.sorting.first_repeat.Given as goal

-- the locations that are left decide
abbrev pub invariant-loop-number : goal.invariant-loop-number
invariant-loop-number l = first_repeat (coordinates_of (take l.number l.locations)) (coordinates_of (drop l.number l.locations)) ≡ first_repeat [] (coordinates_of l.locations)
