use Rattle.vfb.proofs.ReadingLemmas.{has_read_more}
use Rattle.vfb.proofs.drawings.read_drawings.Goals as goal

pub loop-one-preserved : goal.loop-one-preserved
loop-one-preserved g c =
    has_read_more _ _ _ c.args.located.now c.loop-one.one-index _ _ c.one-item.result c.in_ok-drawing.drawing c.loop-one-test.true c.one-item.is c.loop-one.invariant
    c.in_ok-drawing.ensures.reads c.in_ok-drawing.ensures.within c.in_ok-push.ensures.ok
