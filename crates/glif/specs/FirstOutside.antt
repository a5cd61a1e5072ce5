-- The first number of an outline that is out of limits, in this order: the advance width, contour by contour its
-- point count and its coordinates by point, x before y, and then the point count of the glyph.
use Rattle.std.specs.Prelude.{ℕ, ◌-◌, ◌^◌, min, ℤ, pos, negsuc, ◌&&◌, List, [], ◌∷◌, length, sum_by, Option, Some, None, if◌then◌else◌, int_le}
use Rattle.std.specs.Option.{option_or}
use Rattle.glif.specs.declared.shape.Point.{Point}
use Rattle.glif.specs.declared.shape.Outline.{Outline}

-- the number, where it isn't in the range
abbrev pub out_of : ℤ → ℤ → ℤ → Option ℤ
out_of least greatest number = if int_le least number && int_le number greatest then None else Some number

-- the first that an item of the list gives
abbrev pub first_given : {A B : Type 0} → (A → Option B) → List A → Option B
first_given f [] = None
first_given f (item ∷ more) = option_or (f item) (first_given f more)

abbrev pub point_outside : Point → Option ℤ
point_outside point = option_or (out_of (negsuc 16383) (pos 16383) point.x) (out_of (negsuc 16383) (pos 16383) point.y)

abbrev pub contour_outside : List Point → Option ℤ
contour_outside points = option_or (out_of (pos 1) (pos 1024) (pos (length points))) (first_given point_outside points)

-- how many points there are in all, or the greatest 64-bit number where there are more
abbrev pub point_count : List (List Point) → ℕ
point_count contours = min (sum_by length contours) (2 ^ 63 - 1)

abbrev pub first_outside : Outline → Option ℤ
first_outside outline =
    option_or (out_of (pos 0) (pos 16383) outline.advance)
    (option_or (first_given contour_outside outline.contours)
    (out_of (pos 0) (pos 4000) (pos (point_count outline.contours))))
