use Rattle.std.proofs.Common.{◌≡◌, arith, subst, take}
use Rattle.std.proofs.lemmas.Grind.{common_steps}
use Rattle.std.proofs.lemmas.List.Elements.{All-more, All-same}
use Rattle.glif.specs.Limits.{IsOffsetWithin}
use Rattle.compat.proofs.tests.are_near.Goals as goal

pub loop-component-preserved : goal.loop-component-preserved
loop-component-preserved c =
    let near : IsOffsetWithin c.component-item.result = c.is_near.ensures c.if-not-is_near.false in
    All-more IsOffsetWithin c.args.components.now c.loop-component.component-index c.component-item.result c.loop-component-test.true c.loop-component.invariant (subst IsOffsetWithin c.component-item.is near)

pub returns : goal.returns
returns c = λ holds.
    let all : c.args.components.now ≡ take c.loop-component.component-index c.args.components.now = grind (arith, common_steps) in
    All-same IsOffsetWithin c.args.components.now (take c.loop-component.component-index c.args.components.now) all c.loop-component.invariant
