use Rattle.std.proofs.Common.{arith, subst}
use Rattle.std.specs.Prelude.{All}
use Rattle.std.proofs.lemmas.Grind.{common_steps}
use Rattle.std.proofs.lemmas.List.{take_all}
use Rattle.std.proofs.lemmas.List.Elements.{All-more}
use Rattle.glif.specs.Limits.{IsWithinLimits}
use Rattle.glyf_loca.proofs.tests.are_fit.Goals as goal

pub loop-outline-preserved : goal.loop-outline-preserved
loop-outline-preserved c =
    let within : IsWithinLimits c.outline-item.result = grind (arith, common_steps, c.within.ensures.none, c.if-is_some.false, c.is_some.ensures) in
    All-more IsWithinLimits c.args.outlines.now c.loop-outline.outline-index c.outline-item.result c.loop-outline-test.true c.loop-outline.invariant (subst IsWithinLimits c.outline-item.is within)

pub returns : goal.returns
returns c = λ holds. record {
  few = omega (arith, c.if-outlines-gt32510.false);
  within = subst (All IsWithinLimits) (take_all c.loop-outline.outline-index c.args.outlines.now c.loop-outline-test.false) c.loop-outline.invariant;
}
