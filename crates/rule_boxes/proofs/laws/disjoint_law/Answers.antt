use Rattle.rule_boxes.proofs.BoxLaws.{are_disjoint}
use Rattle.rule_boxes.proofs.laws.disjoint_law.Goals as goal

pub returns : goal.returns
returns c = are_disjoint
