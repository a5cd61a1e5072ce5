-- What the filter `mirror` makes: an outline mirrored at an upright line.
use Rattle.std.specs.Prelude.{ℕ, ℤ, pos, negsuc, ◌-ℤ◌, ◌≤ℤ◌, int_le, ◌&&◌, List, [], ◌∷◌, map, Option, Some, None, Result, Ok, Err, if◌then◌else◌}
use Rattle.fixpoint.specs.DecimalText.{whole_of}
use Rattle.fixpoint.specs.declared.decimal.NumberFault.{NumberFault}
use Rattle.glif.specs.declared.shape.Point.{Point}
use Rattle.glif.specs.declared.shape.Outline.{Outline}

-- a point as far from one end of a width as it was from the other
abbrev pub mirrored_point : ℤ → Point → Point
mirrored_point width point = record { x = width -ℤ point.x; y = point.y; on = point.on }

-- each point mirrored, with the same advance width
abbrev pub mirrored : ℤ → Outline → Outline
mirrored width outline = record { advance = outline.advance; contours = map (map (mirrored_point width)) outline.contours }

-- the image under a setting, which is the one number
abbrev pub mirrored_by : List ℤ → Outline → Outline
mirrored_by (width ∷ []) outline = mirrored width outline
mirrored_by setting outline = outline

-- a number that coordinates may add up to: -32768 .. 32766
pub record IsWidth (number : ℤ) : Type 0 where
  pub least : negsuc 32767 ≤ℤ number
  pub greatest : number ≤ℤ pos 32766

-- the setting, where the number is such a one
abbrev pub widths_in : Result ℤ NumberFault → Option (List ℤ)
widths_in (Ok number) = if int_le (negsuc 32767) number && int_le number (pos 32766) then Some (number ∷ []) else None
widths_in (Err fault) = None

-- the setting of a text, which is a whole number
abbrev pub widths_of : List ℕ → Option (List ℤ)
widths_of text = widths_in (whole_of text)
