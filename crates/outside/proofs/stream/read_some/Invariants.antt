use Rattle.std.specs.Io.KnownBytes.{Keeps}
use Rattle.outside.proofs.stream.read_some.Given as goal

-- a read that is broken off takes nothing
abbrev pub invariant-loop : goal.invariant-loop
invariant-loop g l = Keeps (g.F.Read.remaining l.initial.reader) (g.F.Read.remaining l.reader)
