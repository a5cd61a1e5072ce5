use Rattle.std.proofs.Common.{◌≡◌, false, arith}
use Rattle.std.proofs.lemmas.Grind.{common_steps}
use Rattle.compat.specs.Searches.{is_marked}
use Rattle.compat.proofs.Marking.{mark_new}
use Rattle.compat.proofs.cycle.mark.Goals as goal

pub returns-in_ok-push : goal.returns-in_ok-push
returns-in_ok-push c =
    let was : is_marked c.args.marked.now.items c.args.base ≡ false = grind (arith, common_steps) in
    let push = c.in_ok-push.ensures in
    rw push.items (mark_new c.args.base c.args.marked.now.items c.args.waiting.now.items c.requires was)
