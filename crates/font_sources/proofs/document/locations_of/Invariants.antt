use Rattle.std.proofs.Common.{◌≡◌, take}
use Rattle.region_support.specs.Coordinates.{coordinates_of}
use Rattle.font_sources.specs.Document.{locations_of}
use Rattle.font_sources.proofs.document.locations_of.Given as goal

abbrev pub invariant-loop-source : goal.invariant-loop-source
invariant-loop-source l = coordinates_of l.locations ≡ locations_of (take l.source-index l.sources)
