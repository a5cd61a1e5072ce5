use Rattle.std.proofs.Common.{All}
use Rattle.variation_rules.specs.FontUnits.{AreFWords}
use Rattle.iup.proofs.tests.fills.Given as goal

abbrev pub invariant-loop-i : goal.invariant-loop-i
invariant-loop-i l = All AreFWords l.named.deltas
