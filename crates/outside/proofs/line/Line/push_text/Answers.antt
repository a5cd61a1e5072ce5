-- What was held is said before a text that has no room beside it.
use Rattle.std.proofs.Common.{◌∙◌}
use Rattle.std.proofs.lemmas.Result.{err_from_is_err_and}
use Rattle.outside.proofs.Saying.{says_cut}
use Rattle.outside.proofs.Gathering.{gathers_none}
use Rattle.outside.proofs.line.Line.push_text.Goals as goal

pub returns-in_err-flush : goal.returns-in_err-flush
returns-in_err-flush g c =
    let failed = err_from_is_err_and c.from_residual.result c.from_residual.ensures.1 in
    rw (failed.1, ← c.if-gather.ensures.kept) (says_cut failed.0 c.args.text.now c.in_err-flush.ensures.said)

pub returns : goal.returns
returns g c =
    let kept = c.if-gather-2.ensures.kept ∙ c.in_ok-flush.ensures.emptied in
    rw (kept, ← c.if-gather.ensures.kept)
    (gathers_none c.say_text.result c.in_ok-flush.ensures.said c.say_text.ensures)
