use Rattle.std.proofs.Common.{◌+◌, ◌+ℤ◌, to_z, to_z-of_z, FitsSigned, arith}
use Rattle.std.proofs.lemmas.Int.{ints}
use Rattle.std.specs.Int.{w64}
use Rattle.variation_rules.proofs.DrawingLemmas.{phantom_step}
use Rattle.variation_rules.proofs.drawing.moved_advance.Goals as goal

pub overflow_add-moved : goal.overflow_add-moved
overflow_add-moved c = omega (arith, ints, c.loop-tuple.invariant.within, c.phantom_movement_in-moved.ensures.within)

-- one tuple more
pub loop-tuple-preserved : goal.loop-tuple-preserved
loop-tuple-preserved c =
    let so_far = to_z w64 c.loop-tuple.moved-bits in
    let moved = c.phantom_movement_in-moved.result in
    let tuple = c.tuple-item.result in
    let moved_fits : FitsSigned w64 moved = omega (arith, ints, c.phantom_movement_in-moved.ensures.within) in
    let sum_fits : FitsSigned w64 (so_far +ℤ moved) = omega (arith, ints, c.loop-tuple.invariant.within, c.phantom_movement_in-moved.ensures.within) in
    let tuples = c.args.tuples.now in
    let k = c.loop-tuple.tuple-index in
    let point = c.args.outline_points + 1 in
    record {
      advance = simp to_z-of_z (phantom_step c.args.at.now tuples k point tuple so_far moved _ c.loop-tuple-test.true c.tuple-item.is c.phantom_movement_in-moved.ensures.value c.loop-tuple.invariant.advance);
      within = simp to_z-of_z (record {
        low = omega (arith, ints, c.loop-tuple.invariant.within, c.phantom_movement_in-moved.ensures.within);
        high = omega (arith, ints, c.loop-tuple.invariant.within, c.phantom_movement_in-moved.ensures.within);
      });
    }
