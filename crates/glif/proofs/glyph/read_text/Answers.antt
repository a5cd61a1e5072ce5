use Rattle.std.proofs.Common.{ℕ, List, Ok, Err}
use Rattle.std.specs.Prelude.{All, IfOk, Result}
use Rattle.basics.specs.Reading.{Gives}
use Rattle.basics.specs.declared.fault.Stop.{Stop}
use Rattle.glif.specs.Texts.{drawing_of_text}
use Rattle.glif.specs.Limits.{AreDistinct, IsCodePoint, IsOffsetWithin, IsWithinLimits}
use Rattle.glif.specs.declared.shape.Drawing.{Drawing}
use Rattle.glif.proofs.ReadLimits.{text_within}
use Rattle.glif.proofs.glyph.read_text.Goals as goal

outline_read : (text : List ℕ) (result : Result Drawing Stop) → Gives (λ drawing. drawing) result (drawing_of_text text) → IfOk result (λ (drawing : Drawing). IsWithinLimits drawing.outline)
outline_read text (Ok drawing) read = (text_within text drawing read).outline
outline_read text (Err stop) read = tt

offsets_read : (text : List ℕ) (result : Result Drawing Stop) → Gives (λ drawing. drawing) result (drawing_of_text text) → IfOk result (λ (drawing : Drawing). All IsOffsetWithin drawing.components)
offsets_read text (Ok drawing) read = (text_within text drawing read).offsets
offsets_read text (Err stop) read = tt

codes_read : (text : List ℕ) (result : Result Drawing Stop) → Gives (λ drawing. drawing) result (drawing_of_text text) → IfOk result (λ (drawing : Drawing). All IsCodePoint drawing.codes)
codes_read text (Ok drawing) read = (text_within text drawing read).codes
codes_read text (Err stop) read = tt

once_read : (text : List ℕ) (result : Result Drawing Stop) → Gives (λ drawing. drawing) result (drawing_of_text text) → IfOk result (λ (drawing : Drawing). AreDistinct drawing.codes)
once_read text (Ok drawing) read = (text_within text drawing read).once
once_read text (Err stop) read = tt

pub returns-clause-limits : goal.returns-clause-limits
returns-clause-limits c = outline_read c.args.text.now c.read_drawing_text.result c.read_drawing_text.ensures

pub returns-clause-offsets : goal.returns-clause-offsets
returns-clause-offsets c = offsets_read c.args.text.now c.read_drawing_text.result c.read_drawing_text.ensures

pub returns-clause-codes : goal.returns-clause-codes
returns-clause-codes c = codes_read c.args.text.now c.read_drawing_text.result c.read_drawing_text.ensures

pub returns-clause-once : goal.returns-clause-once
returns-clause-once c = once_read c.args.text.now c.read_drawing_text.result c.read_drawing_text.ensures
