-- What the tables `hhea`, `OS/2` and `post` say beside the metrics.
use Rattle.std.specs.Prelude.{ℤ, Result, Ok}
use Rattle.basics.specs.Reading.{◌>>=◌}
use Rattle.basics.specs.declared.fault.Spot.{Spot}
use Rattle.plist.specs.Values.{PlainValue}
use Rattle.fontinfo.specs.declared.tables.Os2.{Os2}
use Rattle.fontinfo.specs.declared.tables.Tables.{Tables}
use Rattle.fontinfo.specs.Classes.{classes_of, clipping_of, AreClassesWithin, IsClippingWithin}
use Rattle.fontinfo.specs.Lines.{hhea_of, typo_of, AreLinesWithin}
use Rattle.fontinfo.specs.Underlines.{underline_of, IsUnderlineWithin}

unfoldable pub os2_of : ℤ → ℤ → PlainValue → Result Os2 Spot
os2_of ascender descender info = do
  typo ← typo_of ascender descender info
  clipping ← clipping_of info
  classes ← classes_of info
  Ok (record { typo = typo; clipping = clipping; classes = classes })

unfoldable pub tables_of : ℤ → ℤ → ℤ → PlainValue → Result Tables Spot
tables_of units ascender descender info = do
  hhea ← hhea_of ascender descender info
  os2 ← os2_of ascender descender info
  underline ← underline_of units info
  Ok (record { hhea = hhea; os2 = os2; underline = underline })

pub record IsOs2Within (os2 : Os2) : Type 0 where
  pub typo_within : AreLinesWithin os2.typo
  pub clipping_within : IsClippingWithin os2.clipping
  pub classes_within : AreClassesWithin os2.classes

pub record AreTablesWithin (tables : Tables) : Type 0 where
  pub hhea_within : AreLinesWithin tables.hhea
  pub os2_within : IsOs2Within tables.os2
  pub underline_within : IsUnderlineWithin tables.underline
