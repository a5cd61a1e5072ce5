-- What sources in memory show.
use Rattle.outside.specs.Files.{Files}
use Rattle.outside.specs.FirstAt.{first_at}
use Rattle.outside.specs.declared.sure_sources.SureSources.{SureSources}

-- what each path has
abbrev pub files_of : SureSources → Files
files_of sources = first_at sources.files
