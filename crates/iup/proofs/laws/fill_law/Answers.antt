use Rattle.iup.proofs.FillLemmas.{infers_as_filled}
use Rattle.iup.proofs.laws.fill_law.Goals as goal

pub returns : goal.returns
returns c = infers_as_filled
