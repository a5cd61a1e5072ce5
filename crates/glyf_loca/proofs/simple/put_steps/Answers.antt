-- A step fits, since both coordinates are within limits.
use Rattle.std.proofs.Common.{◌≡◌, ℤ, pos, false, subst, sym, ◌∙◌, arith}
use Rattle.std.proofs.lemmas.Int.{ints}
use Rattle.std.specs.Prelude.{◌-ℤ◌}
use Rattle.std.specs.Int.{w16, w32, cast_signed, cast_unsigned}
use Rattle.glif.specs.declared.shape.Point.{Point}
use Rattle.glyf_loca.proofs.BoundsLemmas.{IsCoordinate}
use Rattle.glyf_loca.proofs.WriterSteps.{coordinate_within, steps_more}
use Rattle.glyf_loca.proofs.simple.put_steps.Goals as goal

-- a cast of each width gives back what is within limits
kept : (z : ℤ) → IsCoordinate z → cast_signed w32 (cast_unsigned w32 z) ≡ z
kept z own = omega (arith, ints, own.low, own.high)

step_kept : (here before : ℤ) → IsCoordinate here → IsCoordinate before → cast_signed w16 (cast_unsigned w16 (cast_signed w32 (cast_unsigned w32 (here -ℤ before)))) ≡ here -ℤ before
step_kept here before own other =
    let long : cast_signed w32 (cast_unsigned w32 (here -ℤ before)) ≡ here -ℤ before = omega (arith, ints, own.low, own.high, other.low, other.high) in
    rw long (omega (arith, ints, own.low, own.high, other.low, other.high))

pub loop-point-preserved : goal.loop-point-preserved
loop-point-preserved c =
    let origin : Point = record { x = pos 0; y = pos 0; on = false } in
    let invariant = c.loop-point.invariant in
    let own : IsCoordinate c.coordinate-here.result =
    subst IsCoordinate (sym c.coordinate-here.ensures) (coordinate_within c.args.axis _ (c.requires c.loop-point.point-index origin c.loop-point-test.true)) in
    let here : ℤ = cast_signed w32 (cast_unsigned w32 c.coordinate-here.result) in
    let before : ℤ = cast_signed w32 c.loop-point.before-bits in
    let here_is : here ≡ c.coordinate-here.result = kept c.coordinate-here.result own in
    let here_within : IsCoordinate here = subst IsCoordinate (sym here_is) own in
    let before_within : IsCoordinate before = record { low = invariant.least; high = invariant.greatest } in
    record {
      completes = steps_more c.args.axis c.args.points.now c.loop-point.point-index origin before here (cast_signed w16 (cast_unsigned w16 (cast_signed w32 (cast_unsigned w32 (here -ℤ before))))) c.loop-point.out.items _ _ c.loop-point-test.true
          (here_is ∙ c.coordinate-here.ensures) (step_kept here before here_within before_within) invariant.completes c.in_ok-put_i16.ensures.ok;
      least = here_within.low;
      greatest = here_within.high;
    }
