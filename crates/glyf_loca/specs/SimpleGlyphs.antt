-- The contours that a glyph's record means (OpenType, "glyf", simple glyphs). Instructions are passed over, and what
-- follows the last coordinate isn't read.
use Rattle.std.specs.Prelude.{ℕ, zero, suc, ◌+◌, ◌-◌, ◌*◌, ◌/◌, ◌%◌, ℤ, pos, negsuc, neg_ℤ, ◌+ℤ◌, Bool, List, [], ◌∷◌, ◌++◌, take, drop, replicate, Option, Some, None, if◌then◌else◌, nat_eq, nat_le}
use Rattle.basics.specs.Optional.{◌>>=◌}
use Rattle.be_bytes.specs.Reading.{int16, prefix_of, records, uint8, uint16}
use Rattle.glif.specs.declared.shape.Point.{Point}
use Rattle.glyf_loca.specs.declared.extent.Bounds.{Bounds}
use Rattle.glyf_loca.specs.Bounds.{bounds_of, points_in, same_bounds}

-- ---- flags

-- a flag has the bit of this value
abbrev pub has_bit : ℕ → ℕ → Bool
has_bit value flag = nat_eq (flag / value % 2) 1

-- flags before those that are read, with the bytes after them
abbrev pub after_flags : List ℕ → Option (List ℕ × List ℕ) → Option (List ℕ × List ℕ)
after_flags first read = read >>= λ more. Some (first ++ more.0, more.1)

-- So many flags, and the bytes after them. A flag with 0x08, REPEAT_FLAG, is followed by a byte that tells how often it
-- is repeated; where that byte is still to be read, the flag is given.
abbrev pub flags_in : Option ℕ → ℕ → List ℕ → Option (List ℕ × List ℕ)
flags_in None zero bytes = Some ([], bytes)
flags_in None (suc count) [] = None
flags_in None (suc count) (flag ∷ bytes) =
    if has_bit 8 flag then flags_in (Some flag) (suc count) bytes else after_flags (flag ∷ []) (flags_in None count bytes)
flags_in (Some flag) count [] = None
flags_in (Some flag) count (repeats ∷ bytes) =
    if nat_le (repeats + 1) count then after_flags (replicate (repeats + 1) flag) (flags_in None (count - (repeats + 1)) bytes) else None

-- ---- coordinates

-- The step to the next coordinate and its size, by two bits of the flag, short and same: a byte, which same makes
-- positive and else negative; or without short nothing where the coordinate is the same as before, and else an int16.
abbrev pub step_in : ℕ → ℕ → ℕ → List ℕ → Option (ℤ × ℕ)
step_in short same flag bytes =
    if has_bit short flag then (uint8 bytes >>= λ n. Some (if has_bit same flag then pos n else neg_ℤ (pos n), 1))
    else (if has_bit same flag then Some (pos 0, 0) else (int16 bytes >>= λ z. Some (z, 2)))

-- a coordinate for each flag, from one on, and the bytes after them
abbrev pub coordinates_in : ℕ → ℕ → ℤ → List ℕ → List ℕ → Option (List ℤ × List ℕ)
coordinates_in short same at [] bytes = Some ([], bytes)
coordinates_in short same at (flag ∷ flags) bytes = do
  step ← step_in short same flag bytes
  more ← coordinates_in short same (at +ℤ step.0) flags (drop step.1 bytes)
  Some ((at +ℤ step.0) ∷ more.0, more.1)

-- 0x02 X_SHORT_VECTOR, 0x10 X_IS_SAME_OR_POSITIVE_X_SHORT_VECTOR
abbrev pub xs_in : List ℕ → List ℕ → Option (List ℤ × List ℕ)
xs_in flags bytes = coordinates_in 2 16 (pos 0) flags bytes

-- 0x04 Y_SHORT_VECTOR, 0x20 Y_IS_SAME_OR_POSITIVE_Y_SHORT_VECTOR
abbrev pub ys_in : List ℕ → List ℕ → Option (List ℤ × List ℕ)
ys_in flags bytes = coordinates_in 4 32 (pos 0) flags bytes

-- 0x01 ON_CURVE_POINT
abbrev pub points_from : List ℕ → List ℤ → List ℤ → List Point
points_from (flag ∷ flags) (x ∷ xs) (y ∷ ys) = record { x = x; y = y; on = has_bit 1 flag } ∷ points_from flags xs ys
points_from _ _ _ = []

-- ---- contours

-- how many points there are, by the index of each contour's last point: one more than the last of these
abbrev pub count_from : ℕ → List ℕ → ℕ
count_from start [] = start
count_from start (last ∷ lasts) = count_from (last + 1) lasts

-- points cut into contours, each of which has a point at least, by the index of its last point
abbrev pub contours_from : ℕ → List ℕ → List Point → Option (List (List Point))
contours_from start [] points = Some []
contours_from start (last ∷ lasts) points =
    if nat_le start last then (do
      more ← contours_from (last + 1) lasts (drop (last + 1 - start) points)
      Some (take (last + 1 - start) points ∷ more)) else None

-- ---- the record

-- a simple glyph has no negative number of contours; a composite one has
abbrev pub simple_count : ℤ → Option ℕ
simple_count (pos count) = Some count
simple_count (negsuc _) = None

-- xMin, yMin, xMax, yMax
abbrev pub bounds_in : List ℕ → Option Bounds
bounds_in bytes = do
  x_min ← int16 bytes
  y_min ← int16 (drop 2 bytes)
  x_max ← int16 (drop 4 bytes)
  y_max ← int16 (drop 6 bytes)
  Some (record { x_min = x_min; y_min = y_min; x_max = x_max; y_max = y_max })

-- the points by the index of each contour's last one, from the flags on
abbrev pub shape_in : List ℕ → List ℕ → Option (List (List Point))
shape_in lasts bytes = do
  flags ← flags_in None (count_from 0 lasts) bytes
  xs ← xs_in flags.0 flags.1
  ys ← ys_in flags.0 xs.1
  contours_from 0 lasts (points_from flags.0 xs.0 ys.0)

-- numberOfContours, the bounds, endPtsOfContours, instructionLength, instructions, and the points; only where the
-- bounds are the least and the greatest coordinates
abbrev pub record_in : List ℕ → Option (List (List Point))
record_in bytes = do
  number ← int16 bytes
  count ← simple_count number
  bounds ← bounds_in (drop 2 bytes)
  lasts ← records uint16 2 count (drop 10 bytes)
  size ← uint16 (drop (10 + 2 * count) bytes)
  instructions ← prefix_of size (drop (12 + 2 * count) bytes)
  contours ← shape_in lasts (drop (12 + 2 * count + size) bytes)
  if same_bounds bounds (bounds_of (points_in contours)) then Some contours else None

-- a glyph without bytes has no contour
abbrev pub glyph_in : List ℕ → Option (List (List Point))
glyph_in [] = Some []
glyph_in (byte ∷ bytes) = record_in (byte ∷ bytes)
