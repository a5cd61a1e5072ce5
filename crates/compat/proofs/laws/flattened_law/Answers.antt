use Rattle.compat.proofs.Unique.{flattened_once}
use Rattle.compat.proofs.laws.flattened_law.Goals as goal

pub returns : goal.returns
returns c = flattened_once
