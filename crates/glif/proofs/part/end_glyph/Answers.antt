use Rattle.std.proofs.Common.{◌∙◌}
use Rattle.glif.proofs.Keeping.{glyph_ended}
use Rattle.glif.proofs.part.end_glyph.Goals as goal

pub returns-in-Ok : goal.returns-in-Ok
returns-in-Ok c = λ g before. rw c.drawn.ensures (glyph_ended g _ (before ∙ c.in-Ok.is))

pub returns-in-Err : goal.returns-in-Err
returns-in-Err c = λ g before. glyph_ended g _ (before ∙ c.in-Err.is)
