use Rattle.delta_solve.proofs.MasterLaw.{masters_law}
use Rattle.delta_solve.proofs.laws.masters_law.Goals as goal

pub returns : goal.returns
returns c = masters_law
