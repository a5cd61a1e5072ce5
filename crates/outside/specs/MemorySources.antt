-- What sources in memory show of which some reads fail.
use Rattle.std.specs.Prelude.{ℕ, List}
use Rattle.outside.specs.Files.{Files}
use Rattle.outside.specs.SureSources as sure
use Rattle.outside.specs.declared.memory_sources.MemorySources.{MemorySources}

-- what each path has
abbrev pub files_of : MemorySources → Files
files_of sources = sure.files_of sources.sources

-- the numbers of the reads that fail
abbrev pub failing_of : MemorySources → List ℕ
failing_of sources = sources.failures.failing

-- the number of the next read
abbrev pub next_of : MemorySources → ℕ
next_of sources = sources.failures.next

-- the count of faults
abbrev pub faults_of : MemorySources → ℕ
faults_of sources = sources.faults
