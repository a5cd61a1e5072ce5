use Rattle.std.proofs.Common.{◌∙◌, drop, ◌+◌, ap, sym, arith}
use Rattle.basics.specs.Reading.{each, with_prefix}
use Rattle.ufo_source.specs.Glyphs.{glyph_named}
use Rattle.ufo_source.specs.Paths.{IsIn}
use Rattle.ufo_source.proofs.Drawings.{one_more_wanted}
use Rattle.ufo_source.proofs.Further.{each_more, goes_further}
use Rattle.ufo_source.proofs.wanted.read_wanted.Goals as goal

pub loop-name-preserved : goal.loop-name-preserved
loop-name-preserved g c = record {
  goes = goes_further _ _ _ (IsIn c.args.folder.now) _ _ _ c.in_ok-drawing.drawing c.loop-name.invariant.goes c.in_ok-drawing.ensures.exact
      (λ same left gives. left ∙ each_more (λ files. glyph_named files c.args.folder.now c.args.layer.now c.args.index.now) _ _ c.args.names.now c.loop-name.name-index c.name-item.result c.loop-name.drawings c.in_ok-drawing.drawing (omega arith) c.name-item.is same gives
      ∙ ap (λ drawings. with_prefix drawings (each (glyph_named (g.S.Sources.state c.args.sources.now).files c.args.folder.now c.args.layer.now c.args.index.now) (drop (c.loop-name.name-index + 1) c.args.names.now))) (sym c.in_ok-push.ensures.ok));
  read = one_more_wanted c.args.names.now c.loop-name.name-index c.name-item.result c.loop-name.drawings _ c.in_ok-drawing.drawing (omega arith) c.name-item.is c.in_ok-push.ensures.ok c.loop-name.invariant.read c.in_ok-drawing.ensures.within c.in_ok-drawing.ensures.named;
}
