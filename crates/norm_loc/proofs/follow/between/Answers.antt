use Rattle.std.proofs.Common.{◌≡◌, ◌+ℤ◌, ◌-ℤ◌, ◌*ℤ◌, ℤ, FitsSigned, to_z-of_z, arith, ap}
use Rattle.std.proofs.lemmas.Int.{ints}
use Rattle.std.specs.Int.{w64}
use Rattle.std.specs.Int.RustNames.{unsigned_abs}
use Rattle.fixpoint.specs.Rounding.{round_up}
use Rattle.norm_loc.specs.Following.{between}
use Rattle.norm_loc.proofs.RoundingBounds.{step_fits}
use Rattle.norm_loc.proofs.follow.between.Goals as goal

pub mul_div_up-requires-clause-fits : goal.mul_div_up-requires-clause-fits
mul_div_up-requires-clause-fits c =
    let x0 : FitsSigned w64 c.args.x0 = c.ranges.x0 in
    let y0 : FitsSigned w64 c.args.y0 = c.ranges.y0 in
    let x1 : FitsSigned w64 c.args.x1 = c.ranges.x1 in
    let y1 : FitsSigned w64 c.args.y1 = c.ranges.y1 in
    let v : FitsSigned w64 c.args.v = c.ranges.v in
    let rise : FitsSigned w64 (c.args.y1 -ℤ c.args.y0) = omega (arith, ints) in
    let part : FitsSigned w64 (c.args.v -ℤ c.args.x0) = omega (arith, ints) in
    let run : FitsSigned w64 (c.args.x1 -ℤ c.args.x0) = omega (arith, ints) in
    let step = step_fits (c.args.y1 -ℤ c.args.y0) (c.args.v -ℤ c.args.x0) (c.args.x1 -ℤ c.args.x0) (omega (arith, ints)) (omega (arith, ints)) (omega (arith, ints)) (omega (arith, ints)) (omega (arith, ints)) in
    let fits : FitsSigned w64 (round_up ((c.args.y1 -ℤ c.args.y0) *ℤ (c.args.v -ℤ c.args.x0)) (unsigned_abs (c.args.x1 -ℤ c.args.x0))) = omega (arith, ints, step) in
    simp to_z-of_z fits

pub overflow_add-result : goal.overflow_add-result
overflow_add-result c =
    let x0 : FitsSigned w64 c.args.x0 = c.ranges.x0 in
    let y0 : FitsSigned w64 c.args.y0 = c.ranges.y0 in
    let x1 : FitsSigned w64 c.args.x1 = c.ranges.x1 in
    let y1 : FitsSigned w64 c.args.y1 = c.ranges.y1 in
    let v : FitsSigned w64 c.args.v = c.ranges.v in
    let rise : FitsSigned w64 (c.args.y1 -ℤ c.args.y0) = omega (arith, ints) in
    let part : FitsSigned w64 (c.args.v -ℤ c.args.x0) = omega (arith, ints) in
    let run : FitsSigned w64 (c.args.x1 -ℤ c.args.x0) = omega (arith, ints) in
    let step = step_fits (c.args.y1 -ℤ c.args.y0) (c.args.v -ℤ c.args.x0) (c.args.x1 -ℤ c.args.x0) (omega (arith, ints)) (omega (arith, ints)) (omega (arith, ints)) (omega (arith, ints)) (omega (arith, ints)) in
    let value : c.mul_div_up.result ≡ round_up ((c.args.y1 -ℤ c.args.y0) *ℤ (c.args.v -ℤ c.args.x0)) (unsigned_abs (c.args.x1 -ℤ c.args.x0)) = simp to_z-of_z at c.mul_div_up.ensures in
    let fits : FitsSigned w64 c.mul_div_up.result = omega (arith, ints, step) in
    simp to_z-of_z (omega (arith, ints, step))

pub returns : goal.returns
unfolding between
returns c =
    let x0 : FitsSigned w64 c.args.x0 = c.ranges.x0 in
    let y0 : FitsSigned w64 c.args.y0 = c.ranges.y0 in
    let x1 : FitsSigned w64 c.args.x1 = c.ranges.x1 in
    let y1 : FitsSigned w64 c.args.y1 = c.ranges.y1 in
    let v : FitsSigned w64 c.args.v = c.ranges.v in
    let rise : FitsSigned w64 (c.args.y1 -ℤ c.args.y0) = omega (arith, ints) in
    let part : FitsSigned w64 (c.args.v -ℤ c.args.x0) = omega (arith, ints) in
    let run : FitsSigned w64 (c.args.x1 -ℤ c.args.x0) = omega (arith, ints) in
    let step = step_fits (c.args.y1 -ℤ c.args.y0) (c.args.v -ℤ c.args.x0) (c.args.x1 -ℤ c.args.x0) (omega (arith, ints)) (omega (arith, ints)) (omega (arith, ints)) (omega (arith, ints)) (omega (arith, ints)) in
    let value : c.mul_div_up.result ≡ round_up ((c.args.y1 -ℤ c.args.y0) *ℤ (c.args.v -ℤ c.args.x0)) (unsigned_abs (c.args.x1 -ℤ c.args.x0)) = simp to_z-of_z at c.mul_div_up.ensures in
    let fits : FitsSigned w64 c.mul_div_up.result = omega (arith, ints, step) in
    let sum : FitsSigned w64 (c.args.y0 +ℤ c.mul_div_up.result) = omega (arith, ints, step) in
    simp to_z-of_z (ap (λ (z : ℤ). c.args.y0 +ℤ z) value)
