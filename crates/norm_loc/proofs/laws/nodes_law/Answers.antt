use Rattle.norm_loc.proofs.LawLemmas as law
use Rattle.norm_loc.proofs.laws.nodes_law.Goals as goal

pub returns : goal.returns
returns c = law.nodes_are_met
