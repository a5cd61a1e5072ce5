use Rattle.std.proofs.Common.{◌≡◌, length, take}
use Rattle.region_support.specs.Coordinates.{coordinates_of}
use Rattle.font_sources.specs.Document.{locations_of}
use Rattle.font_project.proofs.masters.locations_of.Given as goal

abbrev pub invariant-loop-source : goal.invariant-loop-source
invariant-loop-source l = record {
  same : coordinates_of l.listed ≡ locations_of (take l.source-index l.sources);
  one_each : length l.listed ≡ l.source-index;
}
