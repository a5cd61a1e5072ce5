-- What a file holds, and the tree of its text, or its first fault.
use Rattle.std.specs.Prelude.{◌≡◌, ℕ, ◌-◌, ◌^◌, min, pos, List, [], length, Option, Some, None, Result, Ok, Err, nat_le, if◌then◌else◌}
use Rattle.outside.specs.Files.{Files}
use Rattle.basics.specs.Reading.{◌>>=◌, spot_of}
use Rattle.basics.specs.declared.kinds.Kind.TheVariants.{MissingFile, FileTooLong}
use Rattle.basics.specs.declared.fault.Fault.{Fault}
use Rattle.basics.specs.declared.fault.Spot.{Spot}
use Rattle.basics.specs.declared.fault.Stop.{Stop}
use Rattle.basics.specs.declared.fault.Stop.TheVariants as stop
use Rattle.markup_rules.specs.Outcome.{outcome}
use Rattle.markup_rules.specs.Tree.{Tree}
use Rattle.source_files.specs.Stops.{Refuses}
use Rattle.source_files.specs.declared.stop.ReadStop.{ReadStop}
use Rattle.source_files.specs.declared.stop.ReadStop.TheVariants.{NoMemory}

-- a fault in a file
abbrev pub fault_at : List ℕ → Spot → Fault
fault_at path spot = record { path = path; spot = spot }

-- what is read of a file's text, or its fault with the path
abbrev pub in_file : {A : Type 0} → List ℕ → Result A Spot → Result A Fault
in_file path (Ok value) = Ok value
in_file path (Err spot) = Err (fault_at path spot)

-- there is no such file
abbrev pub missing : Spot
missing = spot_of MissingFile [] 0 (pos 0)

-- how long a file is that is too long, or the greatest number of 64 bits with a sign where it is longer
abbrev pub too_long : ℕ → Spot
too_long length = spot_of FileTooLong [] 0 (pos (min length (2 ^ 63 - 1)))

-- the bytes of a file that has at most 67,108,864, if there is one
abbrev pub found_of : Option (List ℕ) → Result (Option (List ℕ)) Spot
found_of None = Ok None
found_of (Some bytes) = if nat_le (length bytes) 67108864 then Ok (Some bytes) else Err (too_long (length bytes))

abbrev pub found_at : Files → List ℕ → Result (Option (List ℕ)) Fault
found_at files path = in_file path (found_of (files path))

-- the bytes of a file that must be there
abbrev pub there : Option (List ℕ) → Result (List ℕ) Spot
there None = Err missing
there (Some bytes) = Ok bytes

abbrev pub bytes_at : Files → List ℕ → Result (List ℕ) Fault
bytes_at files path = found_at files path >>= λ found. in_file path (there found)

-- what a file's bytes mean
abbrev pub meant_at : {A : Type 0} → (List ℕ → Result A Spot) → Files → List ℕ → Result A Fault
meant_at meaning files path = bytes_at files path >>= λ bytes. in_file path (meaning bytes)

-- The tree of a file's text: it is there, has at most 67,108,864 bytes, and its text has no fault; else the first of
-- these faults.
abbrev pub tree_at : Files → List ℕ → Result Tree Fault
tree_at files path = meant_at outcome files path

-- the tree of a file's text, if there is such a file, or the first fault
abbrev pub tree_or_none : List ℕ → Option (List ℕ) → Result (Option Tree) Fault
tree_or_none path None = Ok None
tree_or_none path (Some bytes) = in_file path (outcome bytes) >>= λ tree. Ok (Some tree)

abbrev pub tree_if_there : Files → List ℕ → Result (Option Tree) Fault
tree_if_there files path = found_at files path >>= λ found. tree_or_none path found

-- a call answers for a file what a reader answered: its value, its fault with the path, or want of memory
abbrev pub IsInFile : {X : Type 0} → List ℕ → Result X Stop → Result X ReadStop → Type 0
IsInFile path (Ok value) result = result ≡ Ok value
IsInFile path (Err (stop.At spot)) (Ok value) = ⊥
IsInFile path (Err (stop.At spot)) (Err stop) = Refuses (fault_at path spot) stop
IsInFile path (Err stop.NoMemory) result = result ≡ Err NoMemory
