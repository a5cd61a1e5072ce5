-- Files and rooms for them in memory, as lists in which of two equal paths the first counts.
use Rattle.std.specs.Prelude.{ℕ, List, Option, None, option_map, bytes_eq}
use Rattle.std.specs.List.{find}
use Rattle.std.specs.Global.{Vec}
use Rattle.outside.specs.Files.{Files}

-- the bytes of the first file with this path
abbrev pub first_at : List (List ℕ × Vec ℕ) → Files
first_at files path = option_map (λ file. file.1.items) (find (λ file. bytes_eq file.0 path) files)

-- the room of the first slot with this path
abbrev pub first_room : List (List ℕ × ℕ) → List ℕ → Option ℕ
first_room rooms path = option_map (λ room. room.1) (find (λ room. bytes_eq room.0 path) rooms)

-- there are no files
abbrev pub no_files : Files
no_files path = None
