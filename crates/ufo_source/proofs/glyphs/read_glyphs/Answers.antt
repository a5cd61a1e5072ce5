use Rattle.std.proofs.Common.{◌∙◌, arith}
use Rattle.ufo_source.specs.Glyphs.{with_glyph}
use Rattle.ufo_source.specs.Paths.{IsIn}
use Rattle.ufo_source.proofs.Drawings.{one_more_read}
use Rattle.ufo_source.proofs.Further.{goes_further, turn_more}
use Rattle.ufo_source.proofs.glyphs.read_glyphs.Goals as goal

pub loop-entry-preserved : goal.loop-entry-preserved
loop-entry-preserved g c = record {
  goes = goes_further _ _ _ (IsIn c.args.folder.now) _ _ _ c.in_ok-glyphs.glyphs c.loop-entry.invariant.goes c.in_ok-glyphs.ensures.exact
      (λ same left gives. left ∙ turn_more (λ files. with_glyph files c.args.folder.now c.args.layer.now) _ _ c.args.entries.now c.loop-entry.entry-index c.entry-item.result c.loop-entry.glyphs c.in_ok-glyphs.glyphs (omega arith) c.entry-item.is same gives);
  read = one_more_read c.args.entries.now c.loop-entry.entry-index c.entry-item.result c.loop-entry.glyphs _ (omega arith) c.entry-item.is c.loop-entry.invariant.read c.in_ok-glyphs.ensures.adds;
}
