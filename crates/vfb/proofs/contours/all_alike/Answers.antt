use Rattle.std.proofs.Common.{◌∙◌, sym, arith}
use Rattle.vfb.proofs.MasterLemmas.{alike_step}
use Rattle.vfb.proofs.contours.all_alike.Goals as goal

pub loop-index-preserved : goal.loop-index-preserved
loop-index-preserved c =
    c.loop-index.invariant
    ∙ alike_step c.args.default.now c.args.located.now c.args.drawings.now c.loop-index.index c.index-drawings-index.result (omega arith) c.loop-index-test.true c.index-drawings-index.is (sym c.in_default.ensures.first)
