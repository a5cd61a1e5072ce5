use Rattle.std.proofs.Common.{◌≡◌, drop}
use Rattle.std.specs.List.{list_any}
use Rattle.region_support.specs.MasterOrder.{is_default}
use Rattle.region_support.specs.Coordinates.{coordinates_of}
use Rattle.region_support.proofs.sorting.has_default.Given as goal

-- the locations that are left decide
abbrev pub invariant-loop-at : goal.invariant-loop-at
invariant-loop-at l = list_any is_default (coordinates_of (drop l.at-index l.locations)) ≡ list_any is_default (coordinates_of l.locations)
