use Rattle.region_support.proofs.OrderLemmas as law
use Rattle.region_support.proofs.laws.keys_law.Goals as goal

pub returns : goal.returns
returns c = law.compare_equal
