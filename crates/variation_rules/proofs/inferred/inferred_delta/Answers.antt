use Rattle.std.proofs.Common.{◌≡◌, ap, to_z, of_z, to_z-of_z, FitsSigned, arith}
use Rattle.std.proofs.lemmas.Int.{ints}
use Rattle.std.specs.Int.{w64}
use Rattle.variation_rules.proofs.InferredLemmas.{answer_turned, between_agree, between_differ}
use Rattle.variation_rules.proofs.inferred.inferred_delta.Goals as goal

pub returns-then-second-first-clause-value : goal.returns-then-second-first-clause-value
returns-then-second-first-clause-value c =
    let at_fits = c.ranges.at in
    answer_turned c.args.first.at c.args.first.delta c.args.second.at c.args.second.delta c.args.at c.inferred_upward-then-second-first.result
    (simp to_z-of_z at c.inferred_upward-then-second-first.ensures.value)

pub returns-then-first-second-2-clause-value : goal.returns-then-first-second-2-clause-value
returns-then-first-second-2-clause-value c =
    let first_fits : FitsSigned w64 c.args.first.delta = omega (arith, ints) in
    let second_fits : FitsSigned w64 c.args.second.delta = omega (arith, ints) in
    let level : c.args.first.delta ≡ c.args.second.delta = simp to_z-of_z at (ap (to_z w64) c.if-first-second-2.true) in
    simp to_z-of_z (between_agree c.args.first.at c.args.first.delta c.args.second.at c.args.second.delta c.args.at (omega (arith, ints)) level)

pub returns-else-first-second-2-clause-value : goal.returns-else-first-second-2-clause-value
returns-else-first-second-2-clause-value c =
    let first_fits : FitsSigned w64 c.args.first.delta = omega (arith, ints) in
    let second_fits : FitsSigned w64 c.args.second.delta = omega (arith, ints) in
    between_differ c.args.first.at c.args.first.delta c.args.second.at c.args.second.delta c.args.at (omega (arith, ints))
    (λ level. c.if-first-second-2.false (ap (of_z w64) level))
