use Rattle.std.proofs.Common.{length}
use Rattle.outside.proofs.Streams.{HasWritten}
use Rattle.outside.proofs.stream.write_whole.Given as goal

-- what is gone from the rest is written
abbrev pub invariant-loop-rest : goal.invariant-loop-rest
invariant-loop-rest g l = HasWritten (g.W.Write.contents l.initial.writer) (g.W.Write.contents l.writer) l.bytes l.rest

abbrev pub decreases-loop-rest : goal.decreases-loop-rest
decreases-loop-rest g l = length l.rest
