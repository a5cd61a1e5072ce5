use Rattle.std.proofs.Common.{take, All}
use Rattle.gvar_table.specs.Tuples.{IsDelta}
use Rattle.gvar_table.proofs.conditions.are_deltas.Given as goal

abbrev pub invariant-loop-delta : goal.invariant-loop-delta
invariant-loop-delta l = All IsDelta (take l.delta-index l.deltas)
