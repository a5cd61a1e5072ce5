use Rattle.std.proofs.Common.{◌≡◌, ◌++◌}
use Rattle.font_sources.proofs.glyph_order.listed.Given as goal

abbrev pub invariant-loop-name : goal.invariant-loop-name
invariant-loop-name l = l.list ++ l.name-iterator ≡ l.fn.names.keys
