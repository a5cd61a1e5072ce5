use Rattle.fixpoint.proofs.DecimalLaws.{decimal_again, decimal_takes}
use Rattle.fixpoint.proofs.decimal.decimal_law.Goals as goal

pub returns : goal.returns
returns c = λ text number. (decimal_takes text number, decimal_again text number)
