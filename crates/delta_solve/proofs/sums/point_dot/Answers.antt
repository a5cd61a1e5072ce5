use Rattle.std.proofs.Common.{◌≡◌, pos, ◌<◌, ◌+ℤ◌, ◌*ℤ◌, length, map, get_or, to_z, to_z-of_z, FitsSigned, rules, arith}
use Rattle.std.proofs.lemmas.Int.{ints}
use Rattle.std.proofs.lemmas.List.{length-map}
use Rattle.std.specs.Int.{w32, w64}
use Rattle.delta_solve.specs.GlyphModels.{delta_x, delta_y}
use Rattle.delta_solve.proofs.SumSteps.{dot_step, dot_end, sum_within, number_at}
use Rattle.delta_solve.proofs.sums.point_dot.Goals as goal

pub overflow_add-x : goal.overflow_add-x
overflow_add-x c = omega (arith, ints, c.loop-k.invariant.within_x, c.parts-moved.ensures.within_x)

pub overflow_add-y : goal.overflow_add-y
overflow_add-y c = omega (arith, ints, c.loop-k.invariant.within_y, c.parts-moved.ensures.within_y)

-- one product more in each sum
pub loop-k-preserved : goal.loop-k-preserved
loop-k-preserved c =
    let x = to_z w64 c.loop-k.x-bits in
    let y = to_z w64 c.loop-k.y-bits in
    let moved = c.parts-moved.result in
    let k = c.loop-k.k in
    let row = c.args.scalars.now in
    let tuples = c.args.tuples.now in
    let xs = map (delta_x c.args.point) tuples in
    let ys = map (delta_y c.args.point) tuples in
    let inside : k < length tuples = omega arith in
    let few : k < 128 = omega (arith, c.requires.few) in
    let x_grown = sum_within k x moved.x c.loop-k.invariant.within_x c.parts-moved.ensures.within_x in
    let y_grown = sum_within k y moved.y c.loop-k.invariant.within_y c.parts-moved.ensures.within_y in
    let x_moved_fits : FitsSigned w64 moved.x = omega (arith, ints, c.parts-moved.ensures.within_x) in
    let y_moved_fits : FitsSigned w64 moved.y = omega (arith, ints, c.parts-moved.ensures.within_y) in
    let x_fits : FitsSigned w64 (x +ℤ moved.x) = omega (arith, ints, x_grown.low, x_grown.high) in
    let y_fits : FitsSigned w64 (y +ℤ moved.y) = omega (arith, ints, y_grown.low, y_grown.high) in
    let scalar_fits : FitsSigned w32 (get_or row k (pos 0)) = search rules in
    let x_is : moved.x ≡ get_or row k (pos 0) *ℤ get_or xs k (pos 0) =
    rw (← number_at (delta_x c.args.point) tuples k c.index-tuples-k.result inside c.index-tuples-k.is) (simp to_z-of_z at c.parts-moved.ensures.x) in
    let y_is : moved.y ≡ get_or row k (pos 0) *ℤ get_or ys k (pos 0) =
    rw (← number_at (delta_y c.args.point) tuples k c.index-tuples-k.result inside c.index-tuples-k.is) (simp to_z-of_z at c.parts-moved.ensures.y) in
    record {
      x = simp to_z-of_z (dot_step row xs k x moved.x _ (omega arith) (omega (arith, length-map tuples (delta_x c.args.point))) x_is c.loop-k.invariant.x);
      y = simp to_z-of_z (dot_step row ys k y moved.y _ (omega arith) (omega (arith, length-map tuples (delta_y c.args.point))) y_is c.loop-k.invariant.y);
      within_x = simp to_z-of_z x_grown;
      within_y = simp to_z-of_z y_grown;
    }

pub returns-clause-x : goal.returns-clause-x
returns-clause-x c =
    let xs = map (delta_x c.args.point) c.args.tuples.now in
    dot_end c.args.scalars.now xs c.loop-k.k (to_z w64 c.loop-k.x-bits) _ (omega (arith, length-map c.args.tuples.now (delta_x c.args.point))) c.loop-k.invariant.x

pub returns-clause-y : goal.returns-clause-y
returns-clause-y c =
    let ys = map (delta_y c.args.point) c.args.tuples.now in
    dot_end c.args.scalars.now ys c.loop-k.k (to_z w64 c.loop-k.y-bits) _ (omega (arith, length-map c.args.tuples.now (delta_y c.args.point))) c.loop-k.invariant.y
