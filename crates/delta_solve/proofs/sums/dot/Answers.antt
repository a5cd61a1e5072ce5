use Rattle.std.proofs.Common.{◌≡◌, pos, ◌<◌, ◌+ℤ◌, ◌*ℤ◌, get_or, to_z, to_z-of_z, FitsSigned, rules, arith}
use Rattle.std.proofs.lemmas.Int.{ints}
use Rattle.std.specs.Int.{w32, w64}
use Rattle.delta_solve.proofs.SumSteps.{dot_step, dot_end, sum_within}
use Rattle.delta_solve.proofs.sums.dot.Goals as goal

-- one product more
pub loop-k-preserved : goal.loop-k-preserved
loop-k-preserved c =
    let so_far = to_z w64 c.loop-k.sum-bits in
    let moved = c.part-moved.result in
    let k = c.loop-k.k in
    let row = c.args.scalars.now in
    let deltas = c.args.deltas.now in
    let grown = sum_within k so_far moved c.loop-k.invariant.within c.part-moved.ensures.within in
    let few : k < 128 = omega (arith, c.requires.few) in
    let moved_fits : FitsSigned w64 moved = omega (arith, ints, c.part-moved.ensures.within) in
    let sum_fits : FitsSigned w64 (so_far +ℤ moved) = omega (arith, ints, grown.low, grown.high) in
    let scalar_fits : FitsSigned w32 (get_or row k (pos 0)) = search rules in
    let delta_fits : FitsSigned w32 (get_or deltas k (pos 0)) = search rules in
    let moved_is : moved ≡ get_or row k (pos 0) *ℤ get_or deltas k (pos 0) = simp to_z-of_z at c.part-moved.ensures.value in
    simp to_z-of_z (record {
      rest = dot_step row deltas k so_far moved _ (omega arith) (omega arith) moved_is c.loop-k.invariant.rest;
      within = grown;
    })

pub returns-clause-value : goal.returns-clause-value
returns-clause-value c = dot_end c.args.scalars.now c.args.deltas.now c.loop-k.k (to_z w64 c.loop-k.sum-bits) _ (omega arith) c.loop-k.invariant.rest
