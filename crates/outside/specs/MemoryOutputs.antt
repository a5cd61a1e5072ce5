-- What files in memory show that are written to, of which some calls fail.
use Rattle.std.specs.Prelude.{ℕ, List, Option}
use Rattle.outside.specs.Files.{Files}
use Rattle.outside.specs.SureOutputs as sure
use Rattle.outside.specs.declared.memory_outputs.MemoryOutputs.{MemoryOutputs}

-- what each path has
abbrev pub files_of : MemoryOutputs → Files
files_of outputs = sure.files_of outputs.inner

-- the most bytes that each path may hold
abbrev pub room_of : MemoryOutputs → List ℕ → Option ℕ
room_of outputs = sure.room_of outputs.inner

-- the path begun last
abbrev pub begun_of : MemoryOutputs → Option (List ℕ)
begun_of outputs = sure.begun_of outputs.inner

-- the numbers of the calls that fail
abbrev pub failing_of : MemoryOutputs → List ℕ
failing_of outputs = outputs.failures.failing

-- the number of the next call
abbrev pub next_of : MemoryOutputs → ℕ
next_of outputs = outputs.failures.next

-- the count of faults
abbrev pub faults_of : MemoryOutputs → ℕ
faults_of outputs = sure.faults_of outputs.inner
