use Rattle.delta_solve.proofs.MasterLaw.{rows_law}
use Rattle.delta_solve.proofs.laws.rows_law.Goals as goal

pub returns : goal.returns
returns c = rows_law
