use Rattle.std.proofs.Common.{◌≡◌, drop}
use Rattle.variation_decoder.specs.Tuples.{tuples_at}
use Rattle.variation_decoder.proofs.Loops.{with_prefix}
use Rattle.variation_decoder.proofs.reader.tuples_at.Given as goal

abbrev pub invariant-loop-head : goal.invariant-loop-head
invariant-loop-head l = with_prefix l.tuples (tuples_at l.total l.shared (drop l.head-index l.heads) l.rest) ≡ tuples_at l.total l.shared l.heads l.bytes
