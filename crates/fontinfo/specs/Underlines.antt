-- Where an underline lies, and how thick it is.
use Rattle.std.specs.Prelude.{ℤ, neg_ℤ, Result, Ok}
use Rattle.basics.specs.Reading.{◌>>=◌}
use Rattle.basics.specs.declared.fault.Spot.{Spot}
use Rattle.plist.specs.Values.{PlainValue}
use Rattle.fontinfo.specs.declared.underline.Underline.{Underline}
use Rattle.fontinfo.specs.declared.key.Key.TheVariants as key
use Rattle.fontinfo.specs.Keys.{number_or}
use Rattle.fontinfo.specs.Metrics.{part_of}
use Rattle.fontinfo.specs.Ranges.{metric, IsWithin}

unfoldable pub underline_of : ℤ → PlainValue → Result Underline Spot
underline_of units info = do
  position ← number_or metric (neg_ℤ (part_of units 1 10)) key.UnderlinePosition info
  size ← number_or metric (part_of units 1 20) key.UnderlineThickness info
  Ok (record { position = position; size = size })

pub record IsUnderlineWithin (underline : Underline) : Type 0 where
  pub position_within : IsWithin metric underline.position
  pub size_within : IsWithin metric underline.size
