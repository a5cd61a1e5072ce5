use Rattle.std.proofs.Common.{◌≡◌, ◌+◌, ◌%◌, ◌^◌, length}
use Rattle.be_bytes.specs.WordSum.{word_sum}
use Rattle.be_bytes.proofs.sum.sum32.Given as goal

-- The sum so far and that of the rest are the whole sum.
abbrev pub invariant-loop-rest : goal.invariant-loop-rest
invariant-loop-rest l = (l.sum + word_sum l.rest) % 2 ^ 32 ≡ word_sum l.fn.bytes % 2 ^ 32

abbrev pub decreases-loop-rest : goal.decreases-loop-rest
decreases-loop-rest l = length l.rest
