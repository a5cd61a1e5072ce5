use Rattle.std.proofs.Common.{◌≡◌, arith, subst, take}
use Rattle.std.specs.Prelude.{All}
use Rattle.std.proofs.lemmas.Grind.{common_steps}
use Rattle.std.proofs.lemmas.List.Elements.{All-more, All-same}
use Rattle.glif.specs.Limits.{IsWithinLimits, IsOffsetWithin}
use Rattle.glif.specs.declared.shape.Drawing.{Drawing}
use Rattle.compat.proofs.tests.are_fit.Goals as goal

pub loop-drawing-preserved : goal.loop-drawing-preserved
loop-drawing-preserved c =
    let within : IsWithinLimits c.drawing-item.result.outline = grind (arith, common_steps, c.within.ensures.none, c.if-is_some.false, c.is_some.ensures) in
    let near : All IsOffsetWithin c.as_slice.result.now = c.are_near.ensures c.if-not-are_near.false in
    let offsets = subst (All IsOffsetWithin) c.as_slice.ensures near in (
      All-more (λ (drawing : Drawing). IsWithinLimits drawing.outline) c.args.drawings.now c.loop-drawing.drawing-index c.drawing-item.result c.loop-drawing-test.true c.loop-drawing.invariant.0
          (subst (λ (drawing : Drawing). IsWithinLimits drawing.outline) c.drawing-item.is within),
      All-more (λ (drawing : Drawing). All IsOffsetWithin drawing.components) c.args.drawings.now c.loop-drawing.drawing-index c.drawing-item.result c.loop-drawing-test.true c.loop-drawing.invariant.1
          (subst (λ (drawing : Drawing). All IsOffsetWithin drawing.components) c.drawing-item.is offsets),
    )

pub returns : goal.returns
returns c = λ holds.
    let all : c.args.drawings.now ≡ take c.loop-drawing.drawing-index c.args.drawings.now = grind (arith, common_steps) in
    record {
      few = omega (arith, c.if-drawings-gt32510.false);
      within = All-same (λ (drawing : Drawing). IsWithinLimits drawing.outline) c.args.drawings.now (take c.loop-drawing.drawing-index c.args.drawings.now) all c.loop-drawing.invariant.0;
      offsets = All-same (λ (drawing : Drawing). All IsOffsetWithin drawing.components) c.args.drawings.now (take c.loop-drawing.drawing-index c.args.drawings.now) all c.loop-drawing.invariant.1;
    }
