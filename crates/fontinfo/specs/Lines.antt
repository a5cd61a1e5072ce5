-- The heights of lines, for the tables `hhea` and `OS/2`.
use Rattle.std.specs.Prelude.{ℤ, pos, Result, Ok}
use Rattle.basics.specs.Reading.{◌>>=◌}
use Rattle.basics.specs.declared.fault.Spot.{Spot}
use Rattle.plist.specs.Values.{PlainValue}
use Rattle.fontinfo.specs.declared.lines.Lines.{Lines}
use Rattle.fontinfo.specs.declared.key.Key.TheVariants as key
use Rattle.fontinfo.specs.Keys.{number_or}
use Rattle.fontinfo.specs.Ranges.{metric, IsWithin}

unfoldable pub hhea_of : ℤ → ℤ → PlainValue → Result Lines Spot
hhea_of ascender descender info = do
  up ← number_or metric ascender key.HheaAscender info
  down ← number_or metric descender key.HheaDescender info
  gap ← number_or metric (pos 0) key.HheaLineGap info
  Ok (record { ascender = up; descender = down; gap = gap })

unfoldable pub typo_of : ℤ → ℤ → PlainValue → Result Lines Spot
typo_of ascender descender info = do
  up ← number_or metric ascender key.TypoAscender info
  down ← number_or metric descender key.TypoDescender info
  gap ← number_or metric (pos 0) key.TypoLineGap info
  Ok (record { ascender = up; descender = down; gap = gap })

pub record AreLinesWithin (lines : Lines) : Type 0 where
  pub ascender_within : IsWithin metric lines.ascender
  pub descender_within : IsWithin metric lines.descender
  pub gap_within : IsWithin metric lines.gap
