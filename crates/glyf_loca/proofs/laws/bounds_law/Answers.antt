use Rattle.glyf_loca.proofs.BoundsLemmas.{bounds_are}
use Rattle.glyf_loca.proofs.laws.bounds_law.Goals as goal

pub returns : goal.returns
returns c = bounds_are
