use Rattle.glyph_variations.proofs.DrawsLemmas.{drawing_law}
use Rattle.glyph_variations.proofs.laws.drawing_law.Goals as goal

pub returns : goal.returns
returns c = drawing_law
