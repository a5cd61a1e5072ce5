-- The two coordinates of points.
use Rattle.std.specs.Prelude.{ℤ, List, map}
use Rattle.glif.specs.declared.shape.Point.{Point}
use Rattle.glyf_loca.specs.declared.simple.Axis.{Axis}
use Rattle.glyf_loca.specs.declared.simple.Axis.TheVariants.{X, Y}

abbrev pub coordinate_on : Axis → Point → ℤ
coordinate_on X point = point.x
coordinate_on Y point = point.y

abbrev pub coordinates_on : Axis → List Point → List ℤ
coordinates_on axis points = map (coordinate_on axis) points
