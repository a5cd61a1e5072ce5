use Rattle.outside.proofs.Streams.{written_more}
use Rattle.outside.proofs.stream.write_whole.Goals as goal

-- a write that takes some bytes leaves the others
pub loop-rest-preserved : goal.loop-rest-preserved
loop-rest-preserved g c = written_more _ _ _ _ _ _ c.loop-rest.invariant c.in_ok-count.ensures.bytes
