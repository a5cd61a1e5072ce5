use Rattle.std.proofs.Common.{◌≡◌, drop}
use Rattle.std.specs.List.{filter}
use Rattle.font_sources.specs.GlyphOrder.{is_among, listed_names, with_names}
use Rattle.font_sources.proofs.glyph_order.listed_names.Given as goal

abbrev pub invariant-loop-name : goal.invariant-loop-name
invariant-loop-name l = with_names l.listed.keys (filter (is_among l.names) (drop l.name-index l.order)) ≡ listed_names l.order l.names
