use Rattle.font_sources.proofs.Names.{one_taken}
use Rattle.font_sources.proofs.glyph_order.glyphs_named.Goals as goal

pub loop-name-preserved : goal.loop-name-preserved
loop-name-preserved c =
    one_taken c.args.names.now c.args.glyphs c.args.wanted.now c.loop-name.found.items c.loop-name.glyphs.items _ _ c.loop-name.name-index c.name-item.result c.as_str.result.now c.get-position.result c.take_glyph.result
    c.requires.once c.loop-name-test.true c.name-item.is c.as_str.ensures c.get-position.ensures.value c.take_glyph.ensures.glyph c.take_glyph.ensures.left c.in_ok-push.ensures.items c.loop-name.invariant
