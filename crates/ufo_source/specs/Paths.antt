-- Where the files of a folder are, and which names lead out of it.
use Rattle.std.specs.Prelude.{◌≡◌, ℕ, pos, Bool, ◌||◌, List, ◌∷◌, ◌++◌, length, codes, Result, Ok, Err, ◌==◌, if◌then◌else◌}
use Rattle.std.specs.List.{list_any}
use Rattle.std.specs.Str.{bytes_eq}
use Rattle.basics.specs.Reading.{spot_of}
use Rattle.basics.specs.declared.kinds.Kind.TheVariants.{FileName}
use Rattle.basics.specs.declared.fault.Spot.{Spot}

-- the path of a file in a folder: both as they stand, with a slash between
abbrev pub path_in : List ℕ → List ℕ → List ℕ
path_in folder name = folder ++ (47 ∷ name)

-- a path that begins with the folder and a slash
abbrev pub IsIn : List ℕ → List ℕ → Type 0
IsIn folder path = (name : List ℕ) × (path ≡ path_in folder name)

-- a name that isn't one of a file in the folder
abbrev pub leads_out : List ℕ → Bool
leads_out name = (length name == 0) || (bytes_eq name (codes ".") || (bytes_eq name (codes "..") || list_any (λ byte. byte == 47) name))

abbrev pub file_name : List ℕ → Result (Unit {0}) Spot
file_name name = if leads_out name then Err (spot_of FileName name 0 (pos 0)) else Ok tt
