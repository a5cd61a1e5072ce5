-- The limits of an outline that can be built: of its numbers, and of how many points it has. And those of code points.
use Rattle.std.specs.Prelude.{ℕ, ◌≤◌, ◌<◌, ◌≢◌, pos, negsuc, ◌≤ℤ◌, List, length, All, sum_by}
use Rattle.std.specs.List.{AllPairs}
use Rattle.glif.specs.declared.shape.Point.{Point}
use Rattle.glif.specs.declared.shape.Outline.{Outline}
use Rattle.glif.specs.declared.shape.Component.{Component}

-- each coordinate is in -16384 .. 16383
pub record IsPointWithin (point : Point) : Type 0 where
  pub least_x : negsuc 16383 ≤ℤ point.x
  pub greatest_x : point.x ≤ℤ pos 16383
  pub least_y : negsuc 16383 ≤ℤ point.y
  pub greatest_y : point.y ≤ℤ pos 16383

-- 1 to 1,024 points, each within limits
pub record IsContourWithin (points : List Point) : Type 0 where
  pub least : 1 ≤ length points
  pub greatest : length points ≤ 1024
  pub points_within : All IsPointWithin points

-- an advance width in 0 .. 16383, contours within limits, and at most 4,000 points in all
pub record IsWithinLimits (outline : Outline) : Type 0 where
  pub least_advance : pos 0 ≤ℤ outline.advance
  pub greatest_advance : outline.advance ≤ℤ pos 16383
  pub contours_within : All IsContourWithin outline.contours
  pub points : sum_by length outline.contours ≤ 4000

-- each number of an offset is in -16384 .. 16383
pub record IsOffsetWithin (component : Component) : Type 0 where
  pub least_x : negsuc 16383 ≤ℤ component.dx
  pub greatest_x : component.dx ≤ℤ pos 16383
  pub least_y : negsuc 16383 ≤ℤ component.dy
  pub greatest_y : component.dy ≤ℤ pos 16383

-- a code point that a `unicode` may tell: up to 0x10FFFF, no surrogate, which are 0xD800 .. 0xDFFF, and not 0xFFFF
pub record IsCodePoint (code : ℕ) : Type 0 where
  pub greatest : code ≤ 0x10FFFF
  pub no_surrogate : 0xD800 ≤ code → 0xDFFF < code
  pub named : code ≢ 0xFFFF

-- no two of a list are equal
abbrev pub AreDistinct : {A : Type 0} → List A → Type 0
AreDistinct list = AllPairs (λ earlier later. earlier ≢ later) list
