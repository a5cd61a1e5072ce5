use Rattle.std.proofs.Common.{Ok, Err}
use Rattle.std.specs.Prelude.{All, IfOk, Result}
use Rattle.basics.specs.Reading.{Gives}
use Rattle.basics.specs.declared.fault.Stop.{Stop}
use Rattle.markup.specs.Plain.{plain}
use Rattle.markup_rules.specs.Tree.{Tree}
use Rattle.glif.specs.Glyphs.{drawing_of}
use Rattle.glif.specs.Limits.{AreDistinct, IsCodePoint, IsOffsetWithin, IsWithinLimits}
use Rattle.glif.specs.declared.shape.Drawing.{Drawing}
use Rattle.glif.proofs.ReadLimits.{drawing_within}
use Rattle.glif.proofs.glyph.read.Goals as goal

outline_read : (tree : Tree) (result : Result Drawing Stop) → Gives (λ drawing. drawing) result (drawing_of tree) → IfOk result (λ (drawing : Drawing). IsWithinLimits drawing.outline)
outline_read tree (Ok drawing) read = (drawing_within tree drawing read).outline
outline_read tree (Err stop) read = tt

offsets_read : (tree : Tree) (result : Result Drawing Stop) → Gives (λ drawing. drawing) result (drawing_of tree) → IfOk result (λ (drawing : Drawing). All IsOffsetWithin drawing.components)
offsets_read tree (Ok drawing) read = (drawing_within tree drawing read).offsets
offsets_read tree (Err stop) read = tt

codes_read : (tree : Tree) (result : Result Drawing Stop) → Gives (λ drawing. drawing) result (drawing_of tree) → IfOk result (λ (drawing : Drawing). All IsCodePoint drawing.codes)
codes_read tree (Ok drawing) read = (drawing_within tree drawing read).codes
codes_read tree (Err stop) read = tt

once_read : (tree : Tree) (result : Result Drawing Stop) → Gives (λ drawing. drawing) result (drawing_of tree) → IfOk result (λ (drawing : Drawing). AreDistinct drawing.codes)
once_read tree (Ok drawing) read = (drawing_within tree drawing read).once
once_read tree (Err stop) read = tt

pub returns-clause-limits : goal.returns-clause-limits
returns-clause-limits c = outline_read (plain c.args.tree.now) c.read_drawing.result c.read_drawing.ensures

pub returns-clause-offsets : goal.returns-clause-offsets
returns-clause-offsets c = offsets_read (plain c.args.tree.now) c.read_drawing.result c.read_drawing.ensures

pub returns-clause-codes : goal.returns-clause-codes
returns-clause-codes c = codes_read (plain c.args.tree.now) c.read_drawing.result c.read_drawing.ensures

pub returns-clause-once : goal.returns-clause-once
returns-clause-once c = once_read (plain c.args.tree.now) c.read_drawing.result c.read_drawing.ensures
