use Rattle.variation_decoder.proofs.Glyph.{means_one}
use Rattle.variation_decoder.proofs.reader.reading_law.Goals as goal

pub returns : goal.returns
returns c = means_one
