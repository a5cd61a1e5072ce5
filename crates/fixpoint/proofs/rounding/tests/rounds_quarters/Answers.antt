use Rattle.std.proofs.Common.{rules}
use Rattle.fixpoint.specs.Rounding.{round_up}
use Rattle.fixpoint.proofs.rounding.tests.rounds_quarters.Goals as goal

-- numbers alone: both sides compute
pub mul_div_up-requires-clause-fits : goal.mul_div_up-requires-clause-fits
unfolding round_up
mul_div_up-requires-clause-fits g c = search rules

pub mul_div_up-requires-2-clause-fits : goal.mul_div_up-requires-2-clause-fits
unfolding round_up
mul_div_up-requires-2-clause-fits g c = search rules

pub mul_div_up-requires-3-clause-fits : goal.mul_div_up-requires-3-clause-fits
unfolding round_up
mul_div_up-requires-3-clause-fits g c = search rules

pub mul_div_down-requires-clause-fits : goal.mul_div_down-requires-clause-fits
unfolding round_up
mul_div_down-requires-clause-fits g c = search rules
