use Rattle.std.proofs.Common.{◌≡◌, ◌-◌}
use Rattle.variation_decoder.specs.Reading.{many, signed_word_at}
use Rattle.variation_decoder.proofs.Loops.{with_prefix}
use Rattle.variation_decoder.proofs.fields.coordinates_at.Given as goal

abbrev pub invariant-loop : goal.invariant-loop
invariant-loop l = with_prefix l.coordinates (many signed_word_at (l.axes - l.counter) l.rest) ≡ many signed_word_at l.axes l.bytes
