-- What the filter `shift` makes: an outline moved as a whole.
use Rattle.std.specs.Prelude.{ℕ, ◌+◌, ◌==◌, ℤ, pos, negsuc, ◌+ℤ◌, ◌≤ℤ◌, int_le, ◌&&◌, List, [], ◌∷◌, map, take, drop, position, Option, Some, None, Result, Ok, Err, if◌then◌else◌}
use Rattle.fixpoint.specs.DecimalText.{whole_of}
use Rattle.fixpoint.specs.declared.decimal.NumberFault.{NumberFault}
use Rattle.basics.specs.Optional.{◌>>=◌}
use Rattle.glif.specs.declared.shape.Point.{Point}
use Rattle.glif.specs.declared.shape.Outline.{Outline}

-- a point moved to the right and up
abbrev pub shifted_point : ℤ → ℤ → Point → Point
shifted_point dx dy point = record { x = point.x +ℤ dx; y = point.y +ℤ dy; on = point.on }

-- each point moved, with the same advance width
abbrev pub shifted : ℤ → ℤ → Outline → Outline
shifted dx dy outline = record { advance = outline.advance; contours = map (map (shifted_point dx dy)) outline.contours }

-- the image under a setting, which is the two numbers
abbrev pub shifted_by : List ℤ → Outline → Outline
shifted_by (dx ∷ dy ∷ []) outline = shifted dx dy outline
shifted_by setting outline = outline

-- a number by which an outline may be moved: -16384 .. 16383
pub record IsOffset (number : ℤ) : Type 0 where
  pub least : negsuc 16383 ≤ℤ number
  pub greatest : number ≤ℤ pos 16383

-- the number, where it is such a one
abbrev pub offset_in : Result ℤ NumberFault → Option ℤ
offset_in (Ok number) = if int_le (negsuc 16383) number && int_le number (pos 16383) then Some number else None
offset_in (Err fault) = None

-- the offset that a whole text writes
abbrev pub offset_of : List ℕ → Option ℤ
offset_of text = offset_in (whole_of text)

-- the setting of a text `DX:DY`, which is cut at its first colon, 58
abbrev pub offsets_of : List ℕ → Option (List ℤ)
offsets_of text = do
  colon ← position (λ byte. byte == 58) text
  dx ← offset_of (take colon text)
  dy ← offset_of (drop (colon + 1) text)
  Some (dx ∷ dy ∷ [])
