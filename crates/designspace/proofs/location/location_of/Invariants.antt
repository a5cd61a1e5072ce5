use Rattle.std.proofs.Common.{◌≡◌, ◌++◌, length, drop}
use Rattle.std.specs.Prelude.{All}
use Rattle.region_support.specs.Regions.{IsNormalised}
use Rattle.designspace.specs.Locations.{coordinates_from}
use Rattle.designspace.proofs.location.location_of.Given as goal

abbrev pub invariant-loop-number : goal.invariant-loop-number
invariant-loop-number l = record {
  whole : l.at.items ++ coordinates_from l.dimensions l.number (drop l.number l.axes) ≡ coordinates_from l.dimensions 0 l.axes;
  within : All IsNormalised l.at.items;
  count : length l.at.items ≡ l.number;
}
