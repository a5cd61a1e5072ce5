use Rattle.std.proofs.Common.{◌≤◌, vec_len}
use Rattle.std.specs.Io.KnownBytes.{Consumes}
use Rattle.outside.proofs.stream.read_within.Given as goal

-- what was read so far is kept, and within the limit
abbrev pub invariant-loop : goal.invariant-loop
invariant-loop g l =
    Consumes (g.F.Read.remaining l.initial.reader) (g.F.Read.remaining l.reader) l.bytes.items × (vec_len l.bytes ≤ l.limit)
