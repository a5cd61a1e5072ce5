-- Which points can be the second reference of an arc in one coordinate, told from the points between without looking
-- at each again. A point is told by its way from the first reference and by how much more it moves, its step.
use Rattle.std.specs.Prelude.{◌≡◌, ◌≢◌, ◌⊎◌, ℕ, ℤ, pos, negsuc, neg_ℤ, ◌-ℤ◌, ◌*ℤ◌, ◌<ℤ◌, ◌≤ℤ◌, IsTrue, List}
use Rattle.fixpoint.specs.declared.plane.Pair.{Pair}
use Rattle.variation_rules.specs.declared.inferred.Reference.{Reference}
use Rattle.variation_rules.specs.FontUnits.{IsReference}
use Rattle.variation_rules.specs.InferredDelta.{Between, around}
use Rattle.iup_optimal.specs.declared.side.Relative.{Relative}
use Rattle.iup_optimal.specs.declared.side.Nearest.{Nearest}
use Rattle.iup_optimal.specs.declared.side.Farthest.{Farthest}
use Rattle.iup_optimal.specs.declared.side.Side.{Side}
use Rattle.iup_optimal.specs.declared.sight.Sight.{Sight}

-- two points lie on one line through the first reference
abbrev pub Collinear : Relative → Relative → Type 0
Collinear point other = (point.step *ℤ other.way) ≡ (point.way *ℤ other.step)

-- a number that is no farther from 0 than 65536
pub record IsSpan (z : ℤ) : Type 0 where
  pub low : negsuc 65535 ≤ℤ z
  pub high : z ≤ℤ pos 65536

pub record IsRelative (point : Relative) : Type 0 where
  pub way : IsSpan point.way
  pub step : IsSpan point.step

-- A point is inferred from the first reference and from one that lies on the side of positive ways: it moves as much as
-- the first at or behind it, as much as the second at or beyond that, and between them its step is on the line.
pub record Follows (end point : Relative) : Type 0 where
  pub behind : point.way ≤ℤ pos 0 → point.step ≡ pos 0
  pub inside : pos 0 <ℤ point.way → point.way <ℤ end.way → Collinear point end
  pub beyond : end.way ≤ℤ point.way → point.step ≡ end.step

-- The nearest point of a side, and the least way of a point that isn't on its line: bounds of the second reference,
-- which are the widest way that there is, 65536, as long as no point is seen.
pub record IsNearest (nearest : Nearest) : Type 0 where
  pub relative : IsRelative nearest.at
  pub some : pos 0 <ℤ nearest.at.way
  pub beyond : nearest.at.way ≤ℤ nearest.off

-- the points nearer than the second reference are on its line
abbrev pub AllowsNear : Nearest → Relative → Type 0
AllowsNear nearest end = (end.way ≤ℤ nearest.at.way) ⊎ (Collinear nearest.at end × (end.way ≤ℤ nearest.off))

-- The farthest point of a side, and the greatest way of a point whose step isn't its: bounds from the other end, which
-- are the first reference itself, at 0, as long as no point is seen.
pub record IsFarthest (farthest : Farthest) : Type 0 where
  pub within : farthest.torn ≤ℤ farthest.at.way

-- the points at the second reference and beyond have its step
abbrev pub AllowsFar : Farthest → Relative → Type 0
AllowsFar farthest end = (farthest.at.way <ℤ end.way) ⊎ ((farthest.at.step ≡ end.step) × (farthest.torn <ℤ end.way))

pub record IsSide (side : Side) : Type 0 where
  pub nearest : IsNearest side.nearest
  pub farthest : IsFarthest side.farthest

-- all points seen so far follow from the first reference and this second one, on the side of positive ways
pub record Allows (side : Side) (end : Relative) : Type 0 where
  pub behind : IsTrue side.level_behind
  pub near : AllowsNear side.nearest end
  pub far : AllowsFar side.farthest end

-- the same way on the other side
abbrev pub turned : Relative → Relative
turned point = record { way = neg_ℤ point.way; step = point.step }

-- a point with this delta is inferred from the two references, on either side or at the first one's coordinate
pub record FollowsAt (end point : Relative) (delta : ℤ) : Type 0 where
  pub above : pos 0 <ℤ end.way → Follows end point
  pub below : end.way <ℤ pos 0 → Follows (turned end) (turned point)
  pub level : end.way ≡ pos 0 → end.step ≡ pos 0 → point.step ≡ pos 0
  pub still : end.way ≡ pos 0 → end.step ≢ pos 0 → delta ≡ pos 0

-- a reference as it is seen from the first one
abbrev pub relative_of : Reference → Reference → Relative
relative_of first point = record { way = point.at -ℤ first.at; step = point.delta -ℤ first.delta }

pub record IsSight (sight : Sight) : Type 0 where
  pub first : IsReference sight.first
  pub above : IsSide sight.above
  pub below : IsSide sight.below

-- all points seen so far are inferred from the first reference and this one
pub record AllowsAt (sight : Sight) (end : Relative) : Type 0 where
  pub above : pos 0 <ℤ end.way → Allows sight.above end
  pub below : end.way <ℤ pos 0 → Allows sight.below (turned end)
  pub level : end.way ≡ pos 0 → end.step ≡ pos 0 → IsTrue sight.level
  pub still : end.way ≡ pos 0 → end.step ≢ pos 0 → IsTrue sight.still

abbrev pub Admits : Sight → Reference → Type 0
Admits sight end = AllowsAt sight (relative_of sight.first end)

-- a point is inferred from two references
abbrev pub BetweenThem : Reference → Reference → Reference → Type 0
BetweenThem first second point = Between first.at first.delta second.at second.delta point.at point.delta

-- the point at a place of the rolled-out contour, in x and in y
abbrev pub x_of : List Pair → List Pair → ℕ → Reference
x_of points deltas place = record { at = (around points place).x; delta = (around deltas place).x }

abbrev pub y_of : List Pair → List Pair → ℕ → Reference
y_of points deltas place = record { at = (around points place).y; delta = (around deltas place).y }
