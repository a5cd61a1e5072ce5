-- The units of the em, the heights in them, and the angle.
use Rattle.std.specs.Prelude.{ℕ, ℤ, pos, neg_ℤ, int_le, ◌*◌, ◌/◌, ◌&&◌, [], Result, Ok, Err, if◌then◌else◌}
use Rattle.std.specs.Int.RustNames.{unsigned_abs}
use Rattle.basics.specs.Reading.{◌>>=◌, spot_of}
use Rattle.basics.specs.declared.kinds.Kind.TheVariants.{UnitsRange}
use Rattle.basics.specs.declared.fault.Spot.{Spot}
use Rattle.plist.specs.Values.{PlainValue, get}
use Rattle.fontinfo.specs.declared.metrics.Heights.{Heights}
use Rattle.fontinfo.specs.declared.metrics.Letters.{Letters}
use Rattle.fontinfo.specs.declared.metrics.Metrics.{Metrics}
use Rattle.fontinfo.specs.declared.key.Key.TheVariants as key
use Rattle.fontinfo.specs.KeyNames.{key_name}
use Rattle.fontinfo.specs.Keys.{by_key, fixed_or_zero, number_or, rounded_of}
use Rattle.fontinfo.specs.Ranges.{metric, units, IsWithin}

-- ---- the units of the em

abbrev pub units_or_fault : ℤ → Result ℤ Spot
units_or_fault n = if int_le (pos 16) n && int_le n (pos 16384) then Ok n else Err (spot_of UnitsRange [] 0 n)

unfoldable pub units_value : PlainValue → Result ℤ Spot
units_value value = rounded_of key.UnitsPerEm value >>= λ n. units_or_fault n

unfoldable pub units_of : PlainValue → Result ℤ Spot
units_of info = by_key units_value (pos 1000) (get (key_name key.UnitsPerEm) info)

-- ---- heights, whose defaults are parts of the em, rounded down

unfoldable pub part_of : ℤ → ℕ → ℕ → ℤ
part_of units part whole = pos (unsigned_abs units * part / whole)

unfoldable pub heights_of : ℤ → PlainValue → Result Heights Spot
heights_of units info = do
  ascender ← number_or metric (part_of units 4 5) key.Ascender info
  descender ← number_or metric (neg_ℤ (part_of units 1 5)) key.Descender info
  Ok (record { ascender = ascender; descender = descender })

unfoldable pub letters_of : ℤ → PlainValue → Result Letters Spot
letters_of units info = do
  x_height ← number_or metric (part_of units 1 2) key.XHeight info
  cap_height ← number_or metric (part_of units 7 10) key.CapHeight info
  italic ← fixed_or_zero key.ItalicAngle info
  Ok (record { x_height = x_height; cap_height = cap_height; italic = italic })

unfoldable pub metrics_of : PlainValue → Result Metrics Spot
metrics_of info = do
  units ← units_of info
  heights ← heights_of units info
  letters ← letters_of units info
  Ok (record { units = units; heights = heights; letters = letters })

-- ---- ranges

pub record AreHeightsWithin (heights : Heights) : Type 0 where
  pub ascender_within : IsWithin metric heights.ascender
  pub descender_within : IsWithin metric heights.descender

pub record AreLettersWithin (letters : Letters) : Type 0 where
  pub x_height_within : IsWithin metric letters.x_height
  pub cap_height_within : IsWithin metric letters.cap_height

pub record AreMetricsWithin (metrics : Metrics) : Type 0 where
  pub units_within : IsWithin units metrics.units
  pub heights_within : AreHeightsWithin metrics.heights
  pub letters_within : AreLettersWithin metrics.letters
