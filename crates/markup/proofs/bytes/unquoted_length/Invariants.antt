use Rattle.std.proofs.Common.{◌≡◌, ◌+◌, length, drop}
use Rattle.markup.specs.Views.{is_unquoted}
use Rattle.markup.proofs.bytes.unquoted_length.Given as goal
use Rattle.basics.specs.Bytes.{run_at}

abbrev pub invariant-loop-index : goal.invariant-loop-index
invariant-loop-index l = l.index + length (run_at is_unquoted (drop l.index l.bytes)) ≡ length (run_at is_unquoted l.bytes)
