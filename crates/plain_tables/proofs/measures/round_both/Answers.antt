use Rattle.std.proofs.Common.{◌≡◌, FitsSigned, arith, to_z, of_z, rules}
use Rattle.std.proofs.lemmas.Int.{ints}
use Rattle.std.specs.Int.{w16}
use Rattle.plain_tables.proofs.measures.round_both.Goals as goal

pub returns-clause-x_min : goal.returns-clause-x_min
returns-clause-x_min c =
    let low : FitsSigned w16 c.args.first.x_min = search rules in
    let high : FitsSigned w16 c.args.second.x_min = search rules in
    let first : to_z w16 (of_z w16 c.args.first.x_min) ≡ c.args.first.x_min = omega (arith, ints) in
    let second : to_z w16 (of_z w16 c.args.second.x_min) ≡ c.args.second.x_min = omega (arith, ints) in
    let plain : to_z w16 (of_z w16 c.min.result) ≡ c.min.result = omega (arith, ints) in
    cc (first, second, plain, c.min.ensures.value)

pub returns-clause-y_min : goal.returns-clause-y_min
returns-clause-y_min c =
    let low : FitsSigned w16 c.args.first.y_min = search rules in
    let high : FitsSigned w16 c.args.second.y_min = search rules in
    let first : to_z w16 (of_z w16 c.args.first.y_min) ≡ c.args.first.y_min = omega (arith, ints) in
    let second : to_z w16 (of_z w16 c.args.second.y_min) ≡ c.args.second.y_min = omega (arith, ints) in
    let plain : to_z w16 (of_z w16 c.min-2.result) ≡ c.min-2.result = omega (arith, ints) in
    cc (first, second, plain, c.min-2.ensures.value)

pub returns-clause-x_max : goal.returns-clause-x_max
returns-clause-x_max c =
    let low : FitsSigned w16 c.args.first.x_max = search rules in
    let high : FitsSigned w16 c.args.second.x_max = search rules in
    let first : to_z w16 (of_z w16 c.args.first.x_max) ≡ c.args.first.x_max = omega (arith, ints) in
    let second : to_z w16 (of_z w16 c.args.second.x_max) ≡ c.args.second.x_max = omega (arith, ints) in
    let plain : to_z w16 (of_z w16 c.max.result) ≡ c.max.result = omega (arith, ints) in
    cc (first, second, plain, c.max.ensures.value)

pub returns-clause-y_max : goal.returns-clause-y_max
returns-clause-y_max c =
    let low : FitsSigned w16 c.args.first.y_max = search rules in
    let high : FitsSigned w16 c.args.second.y_max = search rules in
    let first : to_z w16 (of_z w16 c.args.first.y_max) ≡ c.args.first.y_max = omega (arith, ints) in
    let second : to_z w16 (of_z w16 c.args.second.y_max) ≡ c.args.second.y_max = omega (arith, ints) in
    let plain : to_z w16 (of_z w16 c.max-2.result) ≡ c.max-2.result = omega (arith, ints) in
    cc (first, second, plain, c.max-2.ensures.value)
