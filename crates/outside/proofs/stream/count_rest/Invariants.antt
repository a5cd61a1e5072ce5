use Rattle.outside.proofs.Streams.{HasCounted}
use Rattle.outside.proofs.stream.count_rest.Given as goal

-- the total counts what was read, after the bytes before
abbrev pub invariant-loop : goal.invariant-loop
invariant-loop g l = HasCounted (g.F.Read.remaining l.initial.reader) (g.F.Read.remaining l.reader) l.before l.total
