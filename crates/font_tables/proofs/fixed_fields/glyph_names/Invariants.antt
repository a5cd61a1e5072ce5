use Rattle.std.proofs.Common.{◌≡◌, ◌++◌}
use Rattle.font_model.specs.Fit.{names_of}
use Rattle.font_tables.proofs.fixed_fields.glyph_names.Given as goal

abbrev pub invariant-loop-name : goal.invariant-loop-name
invariant-loop-name l = l.list ++ l.name-iterator ≡ names_of l.names.entries
