-- Reading packed point numbers, for a glyph of so many points.
use Rattle.std.specs.Prelude.{ℕ, ◌+◌, ◌-◌, List, [], ◌∷◌, Option, Some, None, if◌then◌else◌, nat_lt, nat_le, nat_eq, ◌||◌}
use Rattle.std.specs.Int.{w16, from_be_bytes}
use Rattle.variation_decoder.specs.Reading.{many, filled, byte_at, word_at}
use Rattle.variation_rules.specs.PackedPoints.{count_from}
use Rattle.variation_rules.specs.declared.runs.PointClass.{PointClass}
use Rattle.variation_rules.specs.declared.runs.PointClass.TheVariants.{Bytes, Words}
use Rattle.basics.specs.Optional.{◌>>=◌}

-- the class of a run and the number of its differences, by the control byte
abbrev pub point_control : ℕ → PointClass × ℕ
point_control byte = if nat_lt byte 0x80 then (Bytes, byte + 1) else (Words, byte - 0x80 + 1)

abbrev pub difference_at : PointClass → List ℕ → Option (ℕ × List ℕ)
difference_at Bytes bytes = byte_at bytes
difference_at Words bytes = word_at bytes

-- a run of no more differences than are wanted
unfoldable pub difference_run_at : ℕ → List ℕ → Option (List ℕ × List ℕ)
difference_run_at wanted bytes = do
  byte ← byte_at bytes
  if nat_lt wanted (point_control byte.0).1 then None
      else many (difference_at (point_control byte.0).0) (point_control byte.0).1 byte.1

abbrev pub differences_at : ℕ → List ℕ → Option (List ℕ × List ℕ)
differences_at wanted bytes = filled difference_run_at wanted bytes

-- the number of points listed, in one byte or in two
unfoldable pub count_at : List ℕ → Option (ℕ × List ℕ)
count_at bytes = do
  first ← byte_at bytes
  if nat_lt first.0 0x80 then Some first
      else (byte_at first.1 >>= λ second. Some (from_be_bytes w16 ((first.0 - 0x80) ∷ second.0 ∷ []), second.1))

-- the numbers that the differences lead to from this one, if they rise, from the low one on and below the end
unfoldable pub rising : ℕ → ℕ → ℕ → List ℕ → Option (List ℕ)
rising before low end [] = Some []
rising before low end (difference ∷ differences) =
    if nat_lt (before + difference) low || nat_le end (before + difference) then None
    else (rising (before + difference) (before + difference + 1) end differences >>= λ points. Some ((before + difference) ∷ points))

unfoldable pub listed_points_at : ℕ → List ℕ → Option (List ℕ × List ℕ)
listed_points_at total bytes = do
  count ← count_at bytes
  if nat_eq count.0 0 then None
      else (differences_at count.0 count.1 >>= λ differences. rising 0 0 total differences.0 >>= λ points. Some (points, differences.1))

-- all points after a single 0, or those listed
unfoldable pub points_at : ℕ → List ℕ → Option (List ℕ × List ℕ)
points_at total bytes = do
  first ← byte_at bytes
  if nat_eq first.0 0 then Some (count_from total 0, first.1) else listed_points_at total bytes
