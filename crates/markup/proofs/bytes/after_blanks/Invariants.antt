use Rattle.std.proofs.Common.{◌≡◌, drop}
use Rattle.markup.proofs.bytes.after_blanks.Given as goal
use Rattle.basics.specs.Bytes.{after_run, is_blank}

abbrev pub invariant-loop-index : goal.invariant-loop-index
invariant-loop-index l = after_run is_blank (drop l.index l.bytes) ≡ after_run is_blank l.bytes
