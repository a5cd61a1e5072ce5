use Rattle.std.proofs.Common.{◌≡◌, ◌+◌, length, drop}
use Rattle.std.specs.Char.{is_ascii_digit}
use Rattle.fixpoint.proofs.decimal.digit_count.Given as goal
use Rattle.basics.specs.Bytes.{run_at}

abbrev pub invariant-loop-index : goal.invariant-loop-index
invariant-loop-index l = l.index + length (run_at is_ascii_digit (drop l.index l.text)) ≡ length (run_at is_ascii_digit l.text)
