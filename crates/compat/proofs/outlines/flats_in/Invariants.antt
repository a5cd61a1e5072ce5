use Rattle.std.proofs.Common.{◌≡◌, ◌<◌, ℕ, length}
use Rattle.std.specs.Prelude.{slice_index}
use Rattle.compat.specs.Flats.{IsKept}
use Rattle.compat.proofs.outlines.flats_in.Given as goal

abbrev pub invariant-loop-number : goal.invariant-loop-number
invariant-loop-number l = (length l.flats.items ≡ length l.drawings) × ((index : ℕ) → index < l.number-index → IsKept l.drawings l.number-index l.flats.items (slice_index l.order index))
