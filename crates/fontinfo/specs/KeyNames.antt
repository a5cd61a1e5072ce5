-- The keys of `fontinfo.plist` that are read (UFO 3, "fontinfo.plist"), as they are written.
use Rattle.std.specs.Prelude.{ℕ, List, codes}
use Rattle.fontinfo.specs.declared.key.Key.{Key}
use Rattle.fontinfo.specs.declared.key.Key.TheVariants.{UnitsPerEm, Ascender, Descender, XHeight, CapHeight, ItalicAngle, FamilyName, StyleName, VersionMajor, VersionMinor, Copyright, NameVersion, HheaAscender, HheaDescender, HheaLineGap, TypoAscender, TypoDescender, TypoLineGap, WinAscent, WinDescent, WeightClass, WidthClass, VendorId, UnderlinePosition, UnderlineThickness}

unfoldable pub key_name : Key → List ℕ
key_name UnitsPerEm = codes "unitsPerEm"
key_name Ascender = codes "ascender"
key_name Descender = codes "descender"
key_name XHeight = codes "xHeight"
key_name CapHeight = codes "capHeight"
key_name ItalicAngle = codes "italicAngle"
key_name FamilyName = codes "familyName"
key_name StyleName = codes "styleName"
key_name VersionMajor = codes "versionMajor"
key_name VersionMinor = codes "versionMinor"
key_name Copyright = codes "copyright"
key_name NameVersion = codes "openTypeNameVersion"
key_name HheaAscender = codes "openTypeHheaAscender"
key_name HheaDescender = codes "openTypeHheaDescender"
key_name HheaLineGap = codes "openTypeHheaLineGap"
key_name TypoAscender = codes "openTypeOS2TypoAscender"
key_name TypoDescender = codes "openTypeOS2TypoDescender"
key_name TypoLineGap = codes "openTypeOS2TypoLineGap"
key_name WinAscent = codes "openTypeOS2WinAscent"
key_name WinDescent = codes "openTypeOS2WinDescent"
key_name WeightClass = codes "openTypeOS2WeightClass"
key_name WidthClass = codes "openTypeOS2WidthClass"
key_name VendorId = codes "openTypeOS2VendorID"
key_name UnderlinePosition = codes "postscriptUnderlinePosition"
key_name UnderlineThickness = codes "postscriptUnderlineThickness"
