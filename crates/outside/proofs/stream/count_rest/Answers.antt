use Rattle.outside.proofs.Streams.{counted_more}
use Rattle.outside.proofs.stream.count_rest.Goals as goal

-- a read that gives some bytes counts them
pub loop-preserved : goal.loop-preserved
loop-preserved g c =
    counted_more _ _ _ _ _ _ c.read_some.new.buffer c.loop.invariant c.in_ok-count.ensures.bound.0 c.in_ok-count.ensures.bytes.0
