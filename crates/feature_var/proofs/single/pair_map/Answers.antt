use Rattle.std.proofs.Common.{◌∙◌, arith}
use Rattle.feature_var.proofs.PairOrder.{order_more, words_more}
use Rattle.feature_var.proofs.single.pair_map.Goals as goal

pub loop-number-preserved : goal.loop-number-preserved
loop-number-preserved c = record {
  order = c.in_ok-insert.ensures.entries ∙ order_more c.args.pairs.now c.loop-number.number (0, 0) c.loop-number.map.entries (omega (arith, c.loop-number-test.true)) (omega (arith, c.loop-number.auto)) c.loop-number.invariant.order;
  glyphs = words_more c.args.pairs.now c.loop-number.number (0, 0) (omega (arith, c.loop-number-test.true)) (omega (arith, c.loop-number.auto)) (record { first = c.loop-number-test.element_fits.fits; second = c.loop-number-test.element_fits2.fits }) c.loop-number.invariant.glyphs;
}
