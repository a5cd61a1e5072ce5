use Rattle.std.proofs.Common.{◌≡◌, map, take}
use Rattle.delta_solve.specs.Outlines.{advance_of}
use Rattle.font_tables.proofs.fixed_fields.advances.Given as goal

abbrev pub invariant-loop-outline : goal.invariant-loop-outline
invariant-loop-outline l = l.advances ≡ map advance_of (take l.outline-index l.outlines)
