use Rattle.std.proofs.Common.{◌≡◌, map, take}
use Rattle.font_tables.specs.Outlines.{lengths_of}
use Rattle.font_tables.proofs.fixed_fields.lengths.Given as goal

abbrev pub invariant-loop-outline : goal.invariant-loop-outline
invariant-loop-outline l = l.lengths ≡ map lengths_of (take l.outline-index l.outlines)
