use Rattle.plain_tables.proofs.MeasureSteps.{counts_more}
use Rattle.plain_tables.proofs.measures.counted.Goals as goal

pub returns : goal.returns
returns c = λ glyphs was. counts_more glyphs c.args.glyph c.args.counts _ _ c.max.ensures c.max-2.ensures was
