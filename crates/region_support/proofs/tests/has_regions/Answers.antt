use Rattle.region_support.proofs.LocationLemmas.{same_axes}
use Rattle.region_support.proofs.tests.has_regions.Goals as goal

pub order-requires-clause-lengths : goal.order-requires-clause-lengths
order-requires-clause-lengths g c = same_axes g.row.N c.in_ok-locations.locations c.in_ok-locations.ensures.lengths
