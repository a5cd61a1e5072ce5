use Rattle.std.proofs.Common.{arith}
use Rattle.std.proofs.lemmas.Grind.{common_steps}
use Rattle.compat.proofs.Alike.{none_alike, alike_none}
use Rattle.compat.proofs.compared.compare.Goals as goal

pub returns-clause-none : goal.returns-clause-none
returns-clause-none c = grind (arith, common_steps, none_alike, alike_none)
