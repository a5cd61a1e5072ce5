-- The font information that a property list means (UFO 3, "fontinfo.plist"), or its first fault. Keys are read in
-- the order of the fields; other keys mean nothing.
use Rattle.std.specs.Prelude.{◌≤◌, List, Option, Some, None, IfSome, Result, Ok}
use Rattle.basics.specs.Reading.{◌>>=◌}
use Rattle.basics.specs.declared.fault.Spot.{Spot}
use Rattle.plist.specs.Values.{Entry, PlainValue, as_dict}
use Rattle.font_text.specs.Utf16.{utf16_length}
use Rattle.fontinfo.specs.declared.info.Info.{Info}
use Rattle.fontinfo.specs.declared.metrics.Metrics.{Metrics}
use Rattle.fontinfo.specs.declared.naming.Naming.{Naming}
use Rattle.fontinfo.specs.declared.tables.Tables.{Tables}
use Rattle.fontinfo.specs.Keys.{wrong_kind}
use Rattle.fontinfo.specs.Metrics.{metrics_of}
use Rattle.fontinfo.specs.Naming.{naming_of}
use Rattle.fontinfo.specs.Tables.{tables_of}
use Rattle.fontinfo.specs.Ranges as range
use Rattle.fontinfo.specs.Ranges.{IsWithin}

-- the parts put together
abbrev pub info_from : Metrics → Naming → Tables → Info
info_from metrics naming tables = record {
  units = metrics.units;
  ascender = metrics.heights.ascender;
  descender = metrics.heights.descender;
  x_height = metrics.letters.x_height;
  cap_height = metrics.letters.cap_height;
  italic = metrics.letters.italic;
  family = naming.names.family;
  style = naming.names.style;
  major = naming.numbers.major;
  minor = naming.numbers.minor;
  copyright = naming.legal.copyright;
  version = naming.legal.version;
  hhea_ascender = tables.hhea.ascender;
  hhea_descender = tables.hhea.descender;
  hhea_gap = tables.hhea.gap;
  typo_ascender = tables.os2.typo.ascender;
  typo_descender = tables.os2.typo.descender;
  typo_gap = tables.os2.typo.gap;
  win_ascent = tables.os2.clipping.ascent;
  win_descent = tables.os2.clipping.descent;
  weight = tables.os2.classes.weight;
  width = tables.os2.classes.width;
  vendor = tables.os2.classes.vendor;
  underline_at = tables.underline.position;
  underline_size = tables.underline.size;
}

-- the value is a dictionary
abbrev pub dict_or_fault : Option (List Entry) → Result (Unit {0}) Spot
dict_or_fault None = wrong_kind
dict_or_fault (Some entries) = Ok tt

abbrev pub is_dict : PlainValue → Result (Unit {0}) Spot
is_dict value = dict_or_fault (as_dict value)

unfoldable pub info_of : PlainValue → Result Info Spot
info_of info = do
  tested ← is_dict info
  metrics ← metrics_of info
  naming ← naming_of info
  tables ← tables_of metrics.units metrics.heights.ascender metrics.heights.descender info
  Ok (info_from metrics naming tables)

-- the numbers of font information lie in their ranges
pub record AreNumbersWithin (info : Info) : Type 0 where
  pub units_within : IsWithin range.units info.units
  pub ascender_within : IsWithin range.metric info.ascender
  pub descender_within : IsWithin range.metric info.descender
  pub x_height_within : IsWithin range.metric info.x_height
  pub cap_height_within : IsWithin range.metric info.cap_height
  pub major_within : IsWithin range.version info.major
  pub minor_within : IsWithin range.version info.minor
  pub hhea_ascender_within : IsWithin range.metric info.hhea_ascender
  pub hhea_descender_within : IsWithin range.metric info.hhea_descender
  pub hhea_gap_within : IsWithin range.metric info.hhea_gap
  pub typo_ascender_within : IsWithin range.metric info.typo_ascender
  pub typo_descender_within : IsWithin range.metric info.typo_descender
  pub typo_gap_within : IsWithin range.metric info.typo_gap
  pub win_ascent_within : IfSome info.win_ascent (IsWithin range.height)
  pub win_descent_within : IfSome info.win_descent (IsWithin range.height)
  pub weight_within : IsWithin range.weight info.weight
  pub width_within : IsWithin range.width info.width
  pub underline_at_within : IsWithin range.metric info.underline_at
  pub underline_size_within : IsWithin range.metric info.underline_size

-- the texts of font information take so many units of UTF-16 at most
pub record AreTextsWithin (info : Info) : Type 0 where
  pub family_within : utf16_length info.family ≤ 100
  pub style_within : utf16_length info.style ≤ 100
  pub copyright_within : IfSome info.copyright (λ text. utf16_length text ≤ 1000)
  pub version_within : utf16_length info.version ≤ 100
