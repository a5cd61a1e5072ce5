-- What the outlines of a glyph's masters are compared and computed by.
use Rattle.std.specs.Prelude.{ℕ, ℤ, List, length, map, flat_map, slice_index_or}
use Rattle.fixpoint.specs.declared.plane.Pair.{Pair}
use Rattle.glif.specs.declared.shape.Point.{Point}
use Rattle.glif.specs.declared.shape.Outline.{Outline}
use Rattle.variation_rules.specs.InferredDelta.{still}

-- where a point is
abbrev pub position : Point → Pair
position point = record { x = point.x; y = point.y }

-- all points of an outline, contour by contour
abbrev pub all_points : Outline → List Point
all_points outline = flat_map (λ contour. contour) outline.contours

abbrev pub points_of : Outline → List Pair
points_of outline = map position (all_points outline)

-- how many points each contour has
abbrev pub contour_lengths : Outline → List ℕ
contour_lengths outline = map length outline.contours

-- the coordinates of the pair of this number
abbrev pub x_at : ℕ → List Pair → ℤ
x_at point pairs = (slice_index_or pairs point still).x

abbrev pub y_at : ℕ → List Pair → ℤ
y_at point pairs = (slice_index_or pairs point still).y

-- those of the outline's point of this number
abbrev pub x_of : ℕ → Outline → ℤ
x_of point outline = x_at point (points_of outline)

abbrev pub y_of : ℕ → Outline → ℤ
y_of point outline = y_at point (points_of outline)

abbrev pub advance_of : Outline → ℤ
advance_of outline = outline.advance
