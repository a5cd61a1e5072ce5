-- What files in memory show that are written to.
use Rattle.std.specs.Prelude.{ℕ, List, Option}
use Rattle.outside.specs.Files.{Files}
use Rattle.outside.specs.SlotState.{held_in, room_in, paths_of, path_at}
use Rattle.outside.specs.declared.sure_outputs.SureOutputs.{SureOutputs}

-- what each path has
abbrev pub files_of : SureOutputs → Files
files_of outputs = held_in outputs.slots

-- the most bytes that each path may hold
abbrev pub room_of : SureOutputs → List ℕ → Option ℕ
room_of outputs = room_in outputs.slots

-- the path begun last
abbrev pub begun_of : SureOutputs → Option (List ℕ)
begun_of outputs = path_at (paths_of outputs.slots) outputs.current

-- the count of faults
abbrev pub faults_of : SureOutputs → ℕ
faults_of outputs = outputs.faults
