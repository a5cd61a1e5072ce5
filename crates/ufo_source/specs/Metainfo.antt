-- The version of a UFO folder (UFO 3, "metainfo.plist"), of which 3 alone is read.
use Rattle.std.specs.Prelude.{ℕ, ℤ, pos, negsuc, List, [], codes, Option, Some, None, Result, Ok, Err, if◌then◌else◌}
use Rattle.std.specs.Ordering.{int_eq}
use Rattle.fixpoint.specs.DecimalText.{whole_of}
use Rattle.fixpoint.specs.declared.decimal.NumberFault.{NumberFault}
use Rattle.outside.specs.Files.{Files}
use Rattle.basics.specs.Reading.{◌>>=◌, spot_of}
use Rattle.basics.specs.declared.kinds.Kind.TheVariants.{FormatVersion}
use Rattle.basics.specs.declared.fault.Fault.{Fault}
use Rattle.basics.specs.declared.fault.Spot.{Spot}
use Rattle.source_files.specs.Trees.{in_file}
use Rattle.plist.specs.Values.{PlainValue, as_dict, as_number, get}
use Rattle.ufo_source.specs.Paths.{path_in}
use Rattle.ufo_source.specs.PropertyLists.{of_kind, value_at}

-- the version that is told, or -1 where none is told that is a whole number
abbrev pub whole_or : Result ℤ NumberFault → ℤ
whole_or (Ok n) = n
whole_or (Err _) = negsuc 0

abbrev pub version_of : Option (List ℕ) → ℤ
version_of None = negsuc 0
version_of (Some text) = whole_or (whole_of text)

abbrev pub version_by : Option PlainValue → ℤ
version_by None = negsuc 0
version_by (Some value) = version_of (as_number value)

abbrev pub version_in : PlainValue → ℤ
version_in metainfo = version_by (get (codes "formatVersion") metainfo)

unfoldable pub is_version_3 : PlainValue → Result (Unit {0}) Spot
is_version_3 metainfo =
    of_kind (as_dict metainfo) >>= λ _.
    (if int_eq (version_in metainfo) (pos 3) then Ok tt else Err (spot_of FormatVersion [] 0 (version_in metainfo)))

abbrev pub metainfo_path : List ℕ → List ℕ
metainfo_path folder = path_in folder (codes "metainfo.plist")

unfoldable pub metainfo_at : Files → List ℕ → Result (Unit {0}) Fault
metainfo_at files folder = value_at files (metainfo_path folder) >>= λ metainfo. in_file (metainfo_path folder) (is_version_3 metainfo)
