-- The outlines that a font can have.
use Rattle.std.specs.Prelude.{◌≤◌, List, length, All, sum_by}
use Rattle.glif.specs.declared.shape.Outline.{Outline}
use Rattle.glif.specs.declared.shape.Point.{Point}
use Rattle.glif.specs.Limits.{IsContourWithin, IsWithinLimits}

-- contours within limits, with at most 4,000 points in all
pub record AreContoursWithin (contours : List (List Point)) : Type 0 where
  pub each : All IsContourWithin contours
  pub points : sum_by length contours ≤ 4000

-- at most 32,510 glyphs, each outline within limits
pub record AreFit (outlines : List Outline) : Type 0 where
  pub few : length outlines ≤ 32510
  pub within : All IsWithinLimits outlines
