use Rattle.std.proofs.Common.{◌≡◌, drop}
use Rattle.font_sources.specs.GlyphOrder.{with_names}
use Rattle.font_sources.proofs.glyph_order.with_names.Given as goal

abbrev pub invariant-loop-name : goal.invariant-loop-name
invariant-loop-name l = with_names l.names.keys (drop l.name-index l.more) ≡ with_names l.fn.names.keys l.more
