use Rattle.feature_var.proofs.PairOrder.{list_more, list_words_more}
use Rattle.feature_var.proofs.lookups.ordered_lists.Goals as goal

pub loop-pairs-preserved : goal.loop-pairs-preserved
loop-pairs-preserved c = record {
  order = list_more c.args.subs.now c.loop-pairs.pairs-index c.pairs-item.result c.as_slice.result.now c.in_ok-ordered.field-0 c.loop-pairs.lists c.push.new.self c.loop-pairs-test.true c.pairs-item.is c.as_slice.ensures c.in_ok-ordered.ensures.order c.loop-pairs.invariant.order c.in_ok-push.ensures.ok;
  glyphs = list_words_more c.args.subs.now c.loop-pairs.pairs-index c.pairs-item.result c.as_slice.result.now c.loop-pairs-test.true c.pairs-item.is c.as_slice.ensures c.in_ok-ordered.ensures.glyphs c.loop-pairs.invariant.glyphs;
}
