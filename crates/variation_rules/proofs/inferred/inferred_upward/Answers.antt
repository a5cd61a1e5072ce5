use Rattle.std.proofs.Common.{to_z-of_z, arith}
use Rattle.std.proofs.lemmas.Int.{ints}
use Rattle.variation_rules.proofs.InferredLemmas.{answer_inside}
use Rattle.variation_rules.proofs.inferred.inferred_upward.Goals as goal

pub returns-else-second-at-clause-value : goal.returns-else-second-at-clause-value
returns-else-second-at-clause-value c =
    let at_fits = c.ranges.at in
    answer_inside c.args.first.at c.args.first.delta c.args.second.at c.args.second.delta c.args.at c.on_line.result
    (omega (arith, ints)) (omega (arith, ints)) (simp to_z-of_z at c.on_line.ensures.value)
