use Rattle.std.proofs.Common.{◌≡◌, ◌-◌}
use Rattle.variation_decoder.specs.Reading.{many}
use Rattle.variation_decoder.specs.Points.{difference_at}
use Rattle.variation_decoder.proofs.Loops.{with_prefix}
use Rattle.variation_decoder.proofs.packed.run_differences_at.Given as goal

abbrev pub invariant-loop : goal.invariant-loop
invariant-loop l = with_prefix l.differences (many (difference_at l.class) (l.count - l.counter) l.rest) ≡ many (difference_at l.class) l.count l.bytes
