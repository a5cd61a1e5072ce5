use Rattle.std.proofs.Common.{◌≡◌, ◌++◌, length}
use Rattle.variation_rules.specs.TupleVariations.{triples}
use Rattle.variation_decoder.proofs.header.intermediate_region.Given as goal

abbrev pub invariant-loop-starts : goal.invariant-loop-starts
invariant-loop-starts l = l.region ++ triples l.starts l.peaks l.ends ≡ triples l.fn.starts l.fn.peaks l.fn.ends

abbrev pub decreases-loop-starts : goal.decreases-loop-starts
decreases-loop-starts l = length l.starts
