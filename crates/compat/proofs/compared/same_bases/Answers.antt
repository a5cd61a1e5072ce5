use Rattle.std.proofs.Common.{arith}
use Rattle.std.proofs.lemmas.Grind.{common_steps}
use Rattle.compat.proofs.Alike.{none_common, common_none}
use Rattle.compat.proofs.compared.same_bases.Goals as goal

pub returns-then-point-second-clause-none : goal.returns-then-point-second-clause-none
returns-then-point-second-clause-none c = grind (arith, common_steps, none_common, common_none)

pub returns-clause-none : goal.returns-clause-none
returns-clause-none c = grind (arith, common_steps, none_common, common_none)
