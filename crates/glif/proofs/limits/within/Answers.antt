use Rattle.std.proofs.Common.{arith}
use Rattle.std.proofs.lemmas.Grind.{common_steps}
use Rattle.glif.proofs.Outside.{none_within, within_none}
use Rattle.glif.proofs.limits.within.Goals as goal

pub returns-then-is_some-2-clause-none : goal.returns-then-is_some-2-clause-none
returns-then-is_some-2-clause-none c = grind (arith, common_steps, none_within, within_none)

pub returns-clause-none : goal.returns-clause-none
returns-clause-none c = grind (arith, common_steps, none_within, within_none)
