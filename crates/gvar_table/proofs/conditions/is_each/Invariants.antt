use Rattle.std.proofs.Common.{take, All}
use Rattle.gvar_table.specs.Tuples.{IsTupleOf}
use Rattle.gvar_table.proofs.conditions.is_each.Given as goal

abbrev pub invariant-loop-tuple : goal.invariant-loop-tuple
invariant-loop-tuple l = All (IsTupleOf l.fn.axes l.fn.count) (take l.tuple-index l.tuples)
