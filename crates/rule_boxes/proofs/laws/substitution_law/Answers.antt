use Rattle.rule_boxes.proofs.BoxLaws.{substituted_is_ruled}
use Rattle.rule_boxes.proofs.laws.substitution_law.Goals as goal

pub returns : goal.returns
returns g c = substituted_is_ruled
