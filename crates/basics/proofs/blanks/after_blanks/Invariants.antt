use Rattle.std.proofs.Common.{◌≡◌, drop}
use Rattle.basics.specs.Bytes.{after_run, is_blank}
use Rattle.basics.proofs.blanks.after_blanks.Given as goal

abbrev pub invariant-loop-index : goal.invariant-loop-index
invariant-loop-index l = after_run is_blank (drop l.index l.text) ≡ after_run is_blank l.text
