use Rattle.std.proofs.Common.{◌≡◌, ◌+◌, drop}
use Rattle.std.specs.Prelude.{option_map}
use Rattle.markup.proofs.searches.first_index.Given as goal
use Rattle.basics.specs.Bytes.{begins, first_index}

abbrev pub invariant-loop-index : goal.invariant-loop-index
invariant-loop-index l = option_map (λ n. n + l.index) (first_index (begins l.mark) (drop l.index l.bytes)) ≡ first_index (begins l.mark) l.bytes
