use Rattle.std.proofs.Common.{◌≡◌, ℤ, pos, ◌≤ℤ◌, [], ◌∷◌, to_z-of_z, FitsSigned, refl, rules, arith}
use Rattle.std.proofs.lemmas.List.Elements.{All-cons, All-nil}
use Rattle.std.specs.Int.{w32}
use Rattle.glif.specs.Limits.{IsPointWithin, IsContourWithin, IsWithinLimits}
use Rattle.glif.specs.declared.shape.Point.{Point}
use Rattle.delta_solve.proofs.tests.drawing.Goals as goal

-- an advance within limits and two points
two_points : (advance : ℤ) (a b : Point) → pos 0 ≤ℤ advance → advance ≤ℤ pos 16383 → IsPointWithin a → IsPointWithin b → IsWithinLimits (record { advance = advance; contours = (a ∷ b ∷ []) ∷ [] })
two_points advance a b low high first second =
    let contour : IsContourWithin (a ∷ b ∷ []) = record {
      least = omega arith;
      greatest = omega arith;
      points_within = All-cons IsPointWithin a (b ∷ []) first (All-cons IsPointWithin b [] second (All-nil IsPointWithin));
    } in record {
      least_advance = low;
      greatest_advance = high;
      contours_within = All-cons IsContourWithin (a ∷ b ∷ []) [] contour (All-nil IsContourWithin);
      points = omega arith;
    }

pub returns-clause-within : goal.returns-clause-within
returns-clause-within c =
    let contours : c.from_vec-2.result ≡ (c.point.result ∷ c.point-2.result ∷ []) ∷ [] =
    simp (c.from_vec-2.ensures, c.in_ok-push-3.ensures.items, c.new-contours.ensures.items, c.from_vec.ensures, c.in_ok-push-2.ensures.items, c.in_ok-push.ensures.items, c.new-points.ensures.items) refl in
    let low : pos 0 ≤ℤ c.clamp.result = search rules in
    let high : c.clamp.result ≤ℤ pos 16383 = search rules in
    let fits : FitsSigned w32 c.clamp.result = search rules in
    rw contours (simp to_z-of_z (two_points c.clamp.result c.point.result c.point-2.result low high c.point.ensures.within c.point-2.ensures.within))
