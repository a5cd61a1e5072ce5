use Rattle.std.proofs.Common.{◌≡◌, true, [], ◌∷◌, All, length}
use Rattle.glif.specs.Limits.{IsWithinLimits}
use Rattle.glif.specs.declared.shape.Outline.{Outline}
use Rattle.glif.specs.Shapes.{contour_kinds}
use Rattle.delta_solve.proofs.tests.drawings.Given as goal

abbrev pub invariant-loop-line : goal.invariant-loop-line
invariant-loop-line l = record {
  count : length l.outlines.items ≡ l.line-index;
  within : All IsWithinLimits l.outlines.items;
  kinds : All (λ (outline : Outline). contour_kinds outline ≡ (true ∷ true ∷ []) ∷ []) l.outlines.items;
}
