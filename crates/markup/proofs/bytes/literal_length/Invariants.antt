use Rattle.std.proofs.Common.{◌≡◌, ◌+◌, length, drop}
use Rattle.markup_rules.specs.Bytes.{is_literal}
use Rattle.markup.proofs.bytes.literal_length.Given as goal
use Rattle.basics.specs.Bytes.{run_at}

abbrev pub invariant-loop-index : goal.invariant-loop-index
invariant-loop-index l = l.index + length (run_at is_literal (drop l.index l.bytes)) ≡ length (run_at is_literal l.bytes)
