-- The font information of a UFO folder (UFO 3, "fontinfo.plist"), which may be absent.
use Rattle.std.specs.Prelude.{ℕ, List, codes, Result}
use Rattle.outside.specs.Files.{Files}
use Rattle.basics.specs.Reading.{◌>>=◌}
use Rattle.basics.specs.declared.fault.Fault.{Fault}
use Rattle.source_files.specs.Trees.{in_file}
use Rattle.fontinfo.specs.FontInfo.{info_of}
use Rattle.fontinfo.specs.declared.info.Info.{Info}
use Rattle.ufo_source.specs.Paths.{path_in}
use Rattle.ufo_source.specs.PropertyLists.{value_or_empty}

abbrev pub fontinfo_path : List ℕ → List ℕ
fontinfo_path folder = path_in folder (codes "fontinfo.plist")

unfoldable pub info_at : Files → List ℕ → Result Info Fault
info_at files folder = value_or_empty files (fontinfo_path folder) >>= λ value. in_file (fontinfo_path folder) (info_of value)
