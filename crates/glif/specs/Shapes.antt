-- The shape of an outline: what outlines of one glyph must have in common, so that points stand for one another.
use Rattle.std.specs.Prelude.{Bool, List, map}
use Rattle.glif.specs.declared.shape.Point.{Point}
use Rattle.glif.specs.declared.shape.Outline.{Outline}

-- which points of each contour are on the curve
abbrev pub contour_kinds : Outline → List (List Bool)
contour_kinds outline = map (λ contour. map (λ (point : Point). point.on) contour) outline.contours
