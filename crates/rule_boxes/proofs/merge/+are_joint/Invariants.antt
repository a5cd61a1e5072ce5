use Rattle.std.proofs.Common.{length}
use Rattle.rule_boxes.proofs.merge.+are_joint.Given as goal

abbrev pub decreases-are_joint : goal.decreases-are_joint
decreases-are_joint l = length l.area.now
