use Rattle.ufo_source.proofs.Drawings.{fresh_codes}
use Rattle.ufo_source.proofs.glyphs.with_glyph.Goals as goal

pub returns-clause-adds : goal.returns-clause-adds
returns-clause-adds g c = record {
  drawing = c.in_ok-drawing.drawing;
  within = c.in_ok-drawing.ensures.within;
  named = c.in_ok-drawing.ensures.named;
  fresh = fresh_codes c.args.folder.now c.args.glyphs c.in_ok-drawing.drawing c.in_ok-check_new.ensures.answers;
  added = c.in_ok-with.ensures;
}
