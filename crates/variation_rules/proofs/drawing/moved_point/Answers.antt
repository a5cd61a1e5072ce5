use Rattle.std.proofs.Common.{◌≡◌, ◌<◌, ◌+ℤ◌, ◌*ℤ◌, length, get_or, to_z, to_z-of_z, FitsSigned, arith}
use Rattle.std.proofs.lemmas.Int.{ints}
use Rattle.std.specs.Int.{w64}
use Rattle.fixpoint.specs.declared.plane.Pair.{Pair}
use Rattle.variation_rules.specs.InferredDelta.{still}
use Rattle.variation_rules.specs.Scalar.{scalar_of}
use Rattle.variation_rules.proofs.DrawingLemmas.{movement_step}
use Rattle.variation_rules.proofs.drawing.moved_point.Goals as goal

pub overflow_add-x : goal.overflow_add-x
overflow_add-x c = omega (arith, ints, c.loop-k.invariant.within_x, c.movement_in-moved.ensures.within_x)

pub overflow_add-y : goal.overflow_add-y
overflow_add-y c = omega (arith, ints, c.loop-k.invariant.within_y, c.movement_in-moved.ensures.within_y)

-- one tuple more
pub loop-k-preserved : goal.loop-k-preserved
loop-k-preserved c =
    let x = to_z w64 c.loop-k.x-bits in
    let y = to_z w64 c.loop-k.y-bits in
    let moved = c.movement_in-moved.result in
    let tuple = c.index-tuples-k.result in
    let fill = c.index-fills-k.result in
    let k = c.loop-k.k in
    let also : k < length c.args.fills.now = omega arith in
    let x_moved : moved.x ≡ scalar_of 16 tuple.region c.args.at.now *ℤ (get_or fill c.args.i still).x = rw (← c.as_slice.ensures) c.movement_in-moved.ensures.x in
    let y_moved : moved.y ≡ scalar_of 16 tuple.region c.args.at.now *ℤ (get_or fill c.args.i still).y = rw (← c.as_slice.ensures) c.movement_in-moved.ensures.y in
    let x_fits : FitsSigned w64 moved.x = omega (arith, ints, c.movement_in-moved.ensures.within_x) in
    let y_fits : FitsSigned w64 moved.y = omega (arith, ints, c.movement_in-moved.ensures.within_y) in
    let x_sum : FitsSigned w64 (x +ℤ moved.x) = omega (arith, ints, c.loop-k.invariant.within_x, c.movement_in-moved.ensures.within_x) in
    let y_sum : FitsSigned w64 (y +ℤ moved.y) = omega (arith, ints, c.loop-k.invariant.within_y, c.movement_in-moved.ensures.within_y) in
    record {
      x = simp to_z-of_z (movement_step (λ (point : Pair). point.x) c.args.at.now c.args.tuples.now c.args.fills.now k c.args.i tuple fill x moved.x _ c.loop-k-test.true also c.index-tuples-k.is c.index-fills-k.is x_moved c.loop-k.invariant.x);
      y = simp to_z-of_z (movement_step (λ (point : Pair). point.y) c.args.at.now c.args.tuples.now c.args.fills.now k c.args.i tuple fill y moved.y _ c.loop-k-test.true also c.index-tuples-k.is c.index-fills-k.is y_moved c.loop-k.invariant.y);
      within_x = simp to_z-of_z (record {
        low = omega (arith, ints, c.loop-k.invariant.within_x, c.movement_in-moved.ensures.within_x);
        high = omega (arith, ints, c.loop-k.invariant.within_x, c.movement_in-moved.ensures.within_x);
      });
      within_y = simp to_z-of_z (record {
        low = omega (arith, ints, c.loop-k.invariant.within_y, c.movement_in-moved.ensures.within_y);
        high = omega (arith, ints, c.loop-k.invariant.within_y, c.movement_in-moved.ensures.within_y);
      });
    }
