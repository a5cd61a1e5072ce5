use Rattle.std.proofs.Common.{◌∙◌}
use Rattle.font_sources.proofs.Whole.{order_distinct}
use Rattle.font_sources.proofs.default_source.default_of.Goals as goal

pub glyphs_named-requires-clause-once : goal.glyphs_named-requires-clause-once
glyphs_named-requires-clause-once c = order_distinct c.as_slice-2.result.now c.as_slice-3.result.now c.as_slice-4.result.now (c.as_slice-4.ensures ∙ c.in_ok-names.ensures)
