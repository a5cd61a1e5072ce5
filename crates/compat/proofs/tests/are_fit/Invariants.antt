use Rattle.std.proofs.Common.{take}
use Rattle.std.specs.Prelude.{All}
use Rattle.glif.specs.Limits.{IsWithinLimits, IsOffsetWithin}
use Rattle.glif.specs.declared.shape.Drawing.{Drawing}
use Rattle.compat.proofs.tests.are_fit.Given as goal

abbrev pub invariant-loop-drawing : goal.invariant-loop-drawing
invariant-loop-drawing l = All (λ (drawing : Drawing). IsWithinLimits drawing.outline) (take l.drawing-index l.drawings) × All (λ (drawing : Drawing). All IsOffsetWithin drawing.components) (take l.drawing-index l.drawings)
