-- What the font is called, its version, and whose it is.
use Rattle.std.specs.Prelude.{pos, codes, IfSome, Result, Ok}
use Rattle.std.specs.Int.RustNames.{unsigned_abs}
use Rattle.basics.specs.Reading.{◌>>=◌}
use Rattle.basics.specs.declared.fault.Spot.{Spot}
use Rattle.plist.specs.Values.{PlainValue}
use Rattle.fontinfo.specs.declared.naming.Legal.{Legal}
use Rattle.fontinfo.specs.declared.naming.Names.{Names}
use Rattle.fontinfo.specs.declared.naming.Naming.{Naming}
use Rattle.fontinfo.specs.declared.naming.Version.{Version}
use Rattle.fontinfo.specs.declared.key.Key.TheVariants as key
use Rattle.fontinfo.specs.Keys.{IsShort, number_or, text_if_there, text_or}
use Rattle.fontinfo.specs.Ranges as range
use Rattle.fontinfo.specs.Ranges.{IsWithin}
use Rattle.fontinfo.specs.Version.{version_text}

unfoldable pub names_of : PlainValue → Result Names Spot
names_of info = do
  family ← text_or 100 (codes "Untitled") key.FamilyName info
  style ← text_or 100 (codes "Regular") key.StyleName info
  Ok (record { family = family; style = style })

unfoldable pub version_of : PlainValue → Result Version Spot
version_of info = do
  major ← number_or range.version (pos 0) key.VersionMajor info
  minor ← number_or range.version (pos 0) key.VersionMinor info
  Ok (record { major = major; minor = minor })

unfoldable pub legal_of : Version → PlainValue → Result Legal Spot
legal_of numbers info = do
  copyright ← text_if_there 1000 key.Copyright info
  version ← text_or 100 (version_text (unsigned_abs numbers.major) (unsigned_abs numbers.minor)) key.NameVersion info
  Ok (record { copyright = copyright; version = version })

unfoldable pub naming_of : PlainValue → Result Naming Spot
naming_of info = do
  names ← names_of info
  numbers ← version_of info
  legal ← legal_of numbers info
  Ok (record { names = names; numbers = numbers; legal = legal })

pub record IsVersionWithin (numbers : Version) : Type 0 where
  pub major_within : IsWithin range.version numbers.major
  pub minor_within : IsWithin range.version numbers.minor

pub record AreNamesShort (names : Names) : Type 0 where
  pub family_short : IsShort 100 names.family
  pub style_short : IsShort 100 names.style

pub record AreLegalShort (legal : Legal) : Type 0 where
  pub copyright_short : IfSome legal.copyright (IsShort 1000)
  pub version_short : IsShort 100 legal.version

pub record AreTextsShort (naming : Naming) : Type 0 where
  pub names_short : AreNamesShort naming.names
  pub legal_short : AreLegalShort naming.legal
