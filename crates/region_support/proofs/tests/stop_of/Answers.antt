use Rattle.region_support.proofs.LocationLemmas.{same_axes}
use Rattle.region_support.proofs.tests.stop_of.Goals as goal

pub order-requires-clause-lengths : goal.order-requires-clause-lengths
order-requires-clause-lengths g c = same_axes g.row.N c.in-Ok.locations c.in-Ok.ensures.lengths
