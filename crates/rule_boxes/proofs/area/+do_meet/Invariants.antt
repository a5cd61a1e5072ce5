use Rattle.std.proofs.Common.{length}
use Rattle.rule_boxes.proofs.area.+do_meet.Given as goal

abbrev pub decreases-do_meet : goal.decreases-do_meet
decreases-do_meet l = length l.area.now
