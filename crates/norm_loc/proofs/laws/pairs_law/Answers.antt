use Rattle.norm_loc.proofs.PairLemmas as law
use Rattle.norm_loc.proofs.laws.pairs_law.Goals as goal

pub returns : goal.returns
returns c = law.avar_pairs_rise
