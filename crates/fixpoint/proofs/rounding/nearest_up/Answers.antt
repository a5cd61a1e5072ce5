use Rattle.std.proofs.Common.{◌≡◌, ◌-ℤ◌, ◌<ℤ◌, ◌≤ℤ◌, ◌<◌, FitsSigned, to_z-of_z, arith}
use Rattle.std.proofs.lemmas.Int.{ints}
use Rattle.std.specs.Int.{w128, int_div_euclid, int_rem_euclid}
use Rattle.std.specs.Int.RustNames.{unsigned_abs}
use Rattle.fixpoint.proofs.RoundingLemmas.{floor_is_nearest, next_is_nearest, round_size}
use Rattle.fixpoint.proofs.rounding.nearest_up.Goals as goal

pub returns-then-rest-d-clause-value : goal.returns-then-rest-d-clause-value
returns-then-rest-d-clause-value c =
    let n : FitsSigned w128 c.args.n = c.ranges.n in
    let d : FitsSigned w128 c.args.d = c.ranges.d in
    let floor : c.div_euclid-floor.result ≡ int_div_euclid c.args.n c.args.d = simp to_z-of_z at c.div_euclid-floor.ensures in
    let rest : c.rem_euclid-rest.result ≡ int_rem_euclid c.args.n c.args.d = simp to_z-of_z at c.rem_euclid-rest.ensures.value in
    let less : int_rem_euclid c.args.n c.args.d <ℤ (c.args.d -ℤ int_rem_euclid c.args.n c.args.d) = omega (arith, ints) in
    let nearest = floor_is_nearest c.args.n c.args.d c.requires.positive less in
    omega (arith, ints)

pub returns-else-rest-d-clause-value : goal.returns-else-rest-d-clause-value
returns-else-rest-d-clause-value c =
    let n : FitsSigned w128 c.args.n = c.ranges.n in
    let d : FitsSigned w128 c.args.d = c.ranges.d in
    let floor : c.div_euclid-floor.result ≡ int_div_euclid c.args.n c.args.d = simp to_z-of_z at c.div_euclid-floor.ensures in
    let rest : c.rem_euclid-rest.result ≡ int_rem_euclid c.args.n c.args.d = simp to_z-of_z at c.rem_euclid-rest.ensures.value in
    let more : (c.args.d -ℤ int_rem_euclid c.args.n c.args.d) ≤ℤ int_rem_euclid c.args.n c.args.d = omega (arith, ints) in
    let nearest = next_is_nearest c.args.n c.args.d c.requires.positive more in
    let some : 0 < unsigned_abs c.args.d = omega (arith, ints) in
    let size = round_size c.args.n (unsigned_abs c.args.d) some in
    omega (arith, ints)

pub returns-then-rest-d-clause-size : goal.returns-then-rest-d-clause-size
returns-then-rest-d-clause-size c =
    let some : 0 < unsigned_abs c.args.d = omega (arith, ints) in
    rw (returns-then-rest-d-clause-value c) (round_size c.args.n (unsigned_abs c.args.d) some)

pub returns-else-rest-d-clause-size : goal.returns-else-rest-d-clause-size
returns-else-rest-d-clause-size c =
    let some : 0 < unsigned_abs c.args.d = omega (arith, ints) in
    rw (returns-else-rest-d-clause-value c) (round_size c.args.n (unsigned_abs c.args.d) some)
