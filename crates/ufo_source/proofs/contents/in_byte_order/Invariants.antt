use Rattle.std.proofs.Common.{◌≡◌, ◌++◌}
use Rattle.ufo_source.specs.Contents.{in_byte_order}
use Rattle.ufo_source.proofs.contents.in_byte_order.Given as goal

abbrev pub invariant-loop-entry : goal.invariant-loop-entry
invariant-loop-entry l = l.ordered ++ l.entry-iterator ≡ in_byte_order l.fn.entries
