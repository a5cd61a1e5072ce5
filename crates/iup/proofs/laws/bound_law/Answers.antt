use Rattle.iup.proofs.BoundLemmas.{rows_bound}
use Rattle.iup.proofs.laws.bound_law.Goals as goal

pub returns : goal.returns
returns c = rows_bound
