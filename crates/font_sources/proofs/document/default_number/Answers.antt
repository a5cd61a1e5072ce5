use Rattle.font_sources.proofs.Locations.{default_below}
use Rattle.font_sources.proofs.document.default_number.Goals as goal

pub returns-clause-below : goal.returns-clause-below
returns-clause-below c = default_below c.args.sources.now c.args.order.now c.requires
