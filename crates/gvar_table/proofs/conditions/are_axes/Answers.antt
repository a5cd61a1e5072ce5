use Rattle.std.proofs.Common.{All, refl, subst}
use Rattle.std.proofs.lemmas.List.{take_all}
use Rattle.std.proofs.lemmas.List.Elements.{All-more}
use Rattle.gvar_table.specs.Tuples.{IsRegionAxis}
use Rattle.gvar_table.proofs.conditions.are_axes.Goals as goal

pub loop-axis-preserved : goal.loop-axis-preserved
loop-axis-preserved c =
    All-more IsRegionAxis c.args.region.now c.loop-axis.axis-index c.axis-item.result c.loop-axis-test.true c.loop-axis.invariant (subst IsRegionAxis c.axis-item.is (c.if-not-is_axis.ensures refl))

pub returns : goal.returns
returns c = λ _. subst (All IsRegionAxis) (take_all c.loop-axis.axis-index c.args.region.now c.loop-axis-test.false) c.loop-axis.invariant
