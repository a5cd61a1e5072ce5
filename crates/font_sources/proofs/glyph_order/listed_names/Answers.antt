use Rattle.std.proofs.Common.{[], drop, sym, ap, ◌∙◌, cond, rules}
use Rattle.std.specs.List.{filter}
use Rattle.std.proofs.lemmas.List.{at_drop_more}
use Rattle.font_sources.specs.GlyphOrder.{is_among, notdef, with_name, with_names}
use Rattle.font_sources.proofs.Names.{listed_first, listed_step}
use Rattle.font_sources.proofs.glyph_order.listed_names.Goals as goal

pub loop-name-init : goal.loop-name-init
loop-name-init c = listed_first (is_among c.args.names.now) c.new-listed.result.keys c.put_listed.new.listed.keys c.args.order.now c.new-listed.ensures.empty c.in_ok-put_listed.ensures

pub loop-name-preserved : goal.loop-name-preserved
loop-name-preserved c =
    listed_step (is_among c.args.names.now) c.loop-name.listed.keys c.put_listed-in-loop-name.new.listed.keys c.args.order.now c.loop-name.name-index c.name-item.result c.as_str.result.now
    c.loop-name-test.true c.name-item.is c.as_str.ensures c.in_ok-put_listed-2.ensures
    ∙ c.loop-name.invariant
