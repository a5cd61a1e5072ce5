use Rattle.std.proofs.Common.{◌≡◌, ◌-◌}
use Rattle.variation_decoder.specs.Reading.{many}
use Rattle.variation_decoder.specs.Tuples.{header_at}
use Rattle.variation_decoder.proofs.Loops.{with_prefix}
use Rattle.variation_decoder.proofs.reader.heads_at.Given as goal

abbrev pub invariant-loop : goal.invariant-loop
invariant-loop l = with_prefix l.heads (many (header_at l.axes l.peaks) (l.count - l.counter) l.rest) ≡ many (header_at l.axes l.peaks) l.count l.bytes
