-- The answer has the explicit points, and with them what holds of every such list.
use Rattle.std.proofs.Common.{◌∙◌}
use Rattle.explicit_points.specs.ExplicitPoints.{AreExplicit}
use Rattle.explicit_points.proofs.LawLemmas.{explicit_of, explicit_rise, explicit_none}
use Rattle.explicit_points.proofs.named.explicit_points.Goals as goal

are_explicit : (c : goal.After-from_vec) → AreExplicit c.args.lengths.now c.args.points.now c.args.deltas.now c.from_vec.result
are_explicit c =
    explicit_of c.args.lengths.now c.args.points.now c.args.deltas.now c.split_at.result.0.now c.split_at.result.1.now c.in_ok-named.named.items c.from_vec.result
    c.split_at.ensures.front c.split_at.ensures.back c.in_ok-named.ensures (c.from_vec.ensures ∙ c.in_ok-push_moving.ensures)

pub returns-clause-rise : goal.returns-clause-rise
returns-clause-rise c = explicit_rise c.args.lengths.now c.args.points.now c.args.deltas.now c.from_vec.result c.requires (are_explicit c)

pub returns-clause-none : goal.returns-clause-none
returns-clause-none c = explicit_none c.args.lengths.now c.args.points.now c.args.deltas.now c.from_vec.result c.requires (are_explicit c)
