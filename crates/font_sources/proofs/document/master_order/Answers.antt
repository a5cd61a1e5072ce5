use Rattle.std.proofs.Common.{ap, ◌∙◌}
use Rattle.font_sources.specs.Document.{locations_of}
use Rattle.font_sources.proofs.Locations.{lengths_of}
use Rattle.font_sources.proofs.document.master_order.Goals as goal

pub ordered-requires-clause-lengths : goal.ordered-requires-clause-lengths
ordered-requires-clause-lengths c = lengths_of _ c.args.design.now.sources c.in_ok-locations.locations (c.in_ok-locations.ensures ∙ ap locations_of c.as_slice.ensures) c.requires.sources
