use Rattle.std.proofs.Common.{◌≡◌, ◌-◌, length}
use Rattle.variation_decoder.specs.Reading.{filled}
use Rattle.variation_decoder.specs.Deltas.{delta_run_at}
use Rattle.variation_decoder.proofs.Loops.{with_prefix}
use Rattle.variation_decoder.proofs.packed.deltas_at.Given as goal

abbrev pub invariant-loop-alloc : goal.invariant-loop-alloc
invariant-loop-alloc l = with_prefix l.values.items (filled delta_run_at (l.wanted - length l.values.items) l.rest) ≡ filled delta_run_at l.wanted l.bytes

abbrev pub decreases-loop-alloc : goal.decreases-loop-alloc
decreases-loop-alloc l = l.wanted - length l.values.items
