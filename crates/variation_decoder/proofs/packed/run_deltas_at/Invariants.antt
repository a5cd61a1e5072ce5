use Rattle.std.proofs.Common.{◌≡◌, ◌-◌}
use Rattle.variation_decoder.specs.Reading.{many}
use Rattle.variation_decoder.specs.Deltas.{delta_at}
use Rattle.variation_decoder.proofs.Loops.{with_prefix}
use Rattle.variation_decoder.proofs.packed.run_deltas_at.Given as goal

abbrev pub invariant-loop : goal.invariant-loop
invariant-loop l = with_prefix l.values (many (delta_at l.class) (l.count - l.counter) l.rest) ≡ many (delta_at l.class) l.count l.bytes
