use Rattle.region_support.proofs.SortLemmas as law
use Rattle.region_support.proofs.laws.order_law.Goals as goal

pub returns : goal.returns
returns c = law.order_law
