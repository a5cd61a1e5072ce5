use Rattle.markup_rules.proofs.FaultLaw.{fault_takes, fault_again}
use Rattle.markup_rules.proofs.fault_law.Goals as goal

pub returns : goal.returns
returns c = λ text fault. (fault_takes text fault, fault_again text fault)
