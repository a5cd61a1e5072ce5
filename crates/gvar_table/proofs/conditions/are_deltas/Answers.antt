use Rattle.std.proofs.Common.{All, refl, subst}
use Rattle.std.proofs.lemmas.List.{take_all}
use Rattle.std.proofs.lemmas.List.Elements.{All-more}
use Rattle.gvar_table.specs.Tuples.{IsDelta}
use Rattle.gvar_table.proofs.conditions.are_deltas.Goals as goal

pub loop-delta-preserved : goal.loop-delta-preserved
loop-delta-preserved c =
    All-more IsDelta c.args.deltas.now c.loop-delta.delta-index _ c.loop-delta-test.true c.loop-delta.invariant (c.if-not-is_delta.ensures refl)

pub returns : goal.returns
returns c = λ _. subst (All IsDelta) (take_all c.loop-delta.delta-index c.args.deltas.now c.loop-delta-test.false) c.loop-delta.invariant
