-- The box round the points of a glyph (OpenType, "glyf": xMin, yMin, xMax, yMax).
use Rattle.std.specs.Prelude.{◌≢◌, ℤ, pos, ◌≤ℤ◌, Bool, ◌&&◌, List, [], ◌∷◌, fold, map, All, Contains}
use Rattle.std.specs.Int.{int_max, int_min}
use Rattle.std.specs.List.{flat_map}
use Rattle.std.specs.Ordering.{int_eq}
use Rattle.glif.specs.declared.shape.Outline.{Outline}
use Rattle.glif.specs.declared.shape.Point.{Point}
use Rattle.glyf_loca.specs.declared.extent.Bounds.{Bounds}

-- the least of numbers; 0 where there are none
abbrev pub least : List ℤ → ℤ
least [] = pos 0
least (z ∷ zs) = fold int_min z zs

-- the greatest of numbers; 0 where there are none
abbrev pub greatest : List ℤ → ℤ
greatest [] = pos 0
greatest (z ∷ zs) = fold int_max z zs

abbrev pub xs_of : List Point → List ℤ
xs_of points = map (λ point. point.x) points

abbrev pub ys_of : List Point → List ℤ
ys_of points = map (λ point. point.y) points

-- the least and the greatest coordinates of points
unfoldable pub bounds_of : List Point → Bounds
bounds_of points = record { x_min = least (xs_of points); y_min = least (ys_of points); x_max = greatest (xs_of points); y_max = greatest (ys_of points) }

-- the points of a glyph, contour by contour
abbrev pub points_in : List (List Point) → List Point
points_in contours = flat_map (λ contour. contour) contours

-- the bounds of an outline, over the points of all its contours
abbrev pub outline_bounds : Outline → Bounds
outline_bounds outline = bounds_of (points_in outline.contours)

abbrev pub same_bounds : Bounds → Bounds → Bool
same_bounds a b = int_eq a.x_min b.x_min && (int_eq a.y_min b.y_min && (int_eq a.x_max b.x_max && int_eq a.y_max b.y_max))

-- ---- what these words say

-- a number of the list, and none of it is less
pub record IsLeast (z : ℤ) (zs : List ℤ) : Type 0 where
  pub there : Contains zs z
  pub below : All (λ other. z ≤ℤ other) zs

-- a number of the list, and none of it is greater
pub record IsGreatest (z : ℤ) (zs : List ℤ) : Type 0 where
  pub there : Contains zs z
  pub above : All (λ other. other ≤ℤ z) zs

pub record AreBounds (bounds : Bounds) (points : List Point) : Type 0 where
  pub x_min : IsLeast bounds.x_min (xs_of points)
  pub y_min : IsLeast bounds.y_min (ys_of points)
  pub x_max : IsGreatest bounds.x_max (xs_of points)
  pub y_max : IsGreatest bounds.y_max (ys_of points)

-- the bounds of points are their least and their greatest coordinates, where there are points
abbrev pub BoundsLaw : Type 0
BoundsLaw = (points : List Point) → points ≢ [] → AreBounds (bounds_of points) points
