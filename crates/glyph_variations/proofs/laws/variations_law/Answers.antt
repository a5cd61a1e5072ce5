use Rattle.glyph_variations.proofs.MovingLemmas.{variations_law}
use Rattle.glyph_variations.proofs.laws.variations_law.Goals as goal

pub returns : goal.returns
returns c = variations_law
