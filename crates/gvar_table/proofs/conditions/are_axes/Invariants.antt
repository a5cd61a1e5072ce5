use Rattle.std.proofs.Common.{take, All}
use Rattle.gvar_table.specs.Tuples.{IsRegionAxis}
use Rattle.gvar_table.proofs.conditions.are_axes.Given as goal

abbrev pub invariant-loop-axis : goal.invariant-loop-axis
invariant-loop-axis l = All IsRegionAxis (take l.axis-index l.region)
