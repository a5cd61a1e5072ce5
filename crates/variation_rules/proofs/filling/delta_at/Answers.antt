use Rattle.std.proofs.Common.{length, arith}
use Rattle.variation_rules.specs.PointDelta.{given_at}
use Rattle.variation_rules.proofs.DrawingLemmas.{around_within}
use Rattle.variation_rules.proofs.FillingLemmas.{delta_where_none, none_from_before, none_from_after, delta_answer}
use Rattle.variation_rules.proofs.filling.delta_at.Goals as goal

-- where no neighbour is found, nothing is given
pub returns-in_default-named_before-clause-value : goal.returns-in_default-named_before-clause-value
returns-in_default-named_before-clause-value c =
    let given = c.args.given.now in
    delta_where_none c.args.points.now (given_at given) c.args.i c.requires.i
    (rw (← c.requires.same) (none_from_before (given_at given) (length given) c.args.i (omega arith) c.in_default-named_before.ensures))

pub returns-in_default-named_after-clause-value : goal.returns-in_default-named_after-clause-value
returns-in_default-named_after-clause-value c =
    let given = c.args.given.now in
    delta_where_none c.args.points.now (given_at given) c.args.i c.requires.i
    (rw (← c.requires.same) (none_from_after (given_at given) (length given) c.args.i (omega arith) c.in_default-named_after.ensures))

pub returns-clause-value : goal.returns-clause-value
returns-clause-value c =
    delta_answer c.args.points.now c.args.given.now c.args.i c.in-Some-named_before.first c.in-Some-named_after.second c.inferred_pair.result
    c.requires.same c.requires.i c.in_default.is c.in-Some-named_before.ensures c.in-Some-named_after.ensures
    (rw (around_within c.args.points.now c.args.i c.requires.i) (rw (c.moved_at.ensures, c.moved_at-2.ensures) at c.inferred_pair.ensures.value))
