use Rattle.std.proofs.Common.{◌≡◌, pos, true, [], ◌∷◌, sym, ◌∙◌, arith}
use Rattle.std.proofs.lemmas.List.{length_push}
use Rattle.std.proofs.lemmas.List.Elements.{All-push}
use Rattle.glif.specs.Limits.{IsWithinLimits}
use Rattle.glif.specs.declared.shape.Outline.{Outline}
use Rattle.glif.specs.Shapes.{contour_kinds}
use Rattle.delta_solve.proofs.tests.drawings.Goals as goal

pub loop-line-preserved : goal.loop-line-preserved
loop-line-preserved c =
    let before = c.loop-line.outlines.items in
    let outline = c.in_ok-drawing.field-0 in
    rw c.in_ok-push.ensures.items (record {
      count = omega (arith, length_push before outline);
      within = All-push IsWithinLimits before outline c.loop-line.invariant.within c.in_ok-drawing.ensures.within;
      kinds = All-push (λ (outline : Outline). contour_kinds outline ≡ (true ∷ true ∷ []) ∷ []) before outline c.loop-line.invariant.kinds c.in_ok-drawing.ensures.kinds;
    })

-- all have the kinds that the first has
pub returns-clause-alike : goal.returns-clause-alike
returns-clause-alike c =
    let kinds = c.loop-line.invariant.kinds in
    rw c.from_vec.ensures (λ k d below. kinds k d below ∙ sym (kinds 0 (record { advance = pos 0; contours = [] }) (omega arith)))
