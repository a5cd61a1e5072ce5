use Rattle.font_sources.proofs.Names.{IsTaken}
use Rattle.font_sources.proofs.glyph_order.glyphs_named.Given as goal

abbrev pub invariant-loop-name : goal.invariant-loop-name
invariant-loop-name l = IsTaken l.names l.fn.glyphs l.wanted l.found.items l.glyphs.items l.name-index
