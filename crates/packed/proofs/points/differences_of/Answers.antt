-- In the end no point is left.
use Rattle.std.proofs.Common.{◌≡◌, length, arith}
use Rattle.packed.proofs.PointRuns.{all_differences}
use Rattle.packed.proofs.points.differences_of.Goals as goal

pub returns : goal.returns
returns c =
    let none : length c.loop-rest.rest.now ≡ 0 = omega (arith, c.in_default.len_below) in
    all_differences _ _ _ _ none c.loop-rest.invariant.complete
