use Rattle.sfnt_write.proofs.Lift.{head_is_given}
use Rattle.sfnt_write.proofs.laws.head_law.Goals as goal

pub returns : goal.returns
returns c = head_is_given
