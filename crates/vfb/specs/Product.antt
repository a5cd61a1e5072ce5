-- What a command makes: the files that it writes and the text that it says; and what writing them comes to.
use Rattle.std.specs.Prelude.{◌≡◌, ℕ, ◌⊎◌, List, [], ◌∷◌, length, Option}
use Rattle.std.specs.List.{concat}
use Rattle.outside.specs.Files.{Files, put, IsPrefix, Exceeds}

-- A file is begun at its path, and then its pieces are appended in order.
pub record File : Type 0 where
  pub path : List ℕ
  pub pieces : List (List ℕ)

-- The files are written one after another, and then the text is said.
pub record Product : Type 0 where
  pub files : List File
  pub text : List ℕ

-- what a file holds once it is written
abbrev pub held_by : File → List ℕ
held_by file = concat file.pieces

-- what the paths hold once the files are written; of two files at one path the later counts
abbrev pub written : List File → Files → Files
written [] old = old
written (file ∷ later) old = written later (put old file.path (held_by file))

-- nothing of the bytes is there, or the path holds a prefix of them
abbrev pub IsCutShort : List ℕ → List ℕ → Files → Files → Type 0
IsCutShort path bytes old new = (new ≡ old) ⊎ ((prefix : List ℕ) × IsPrefix prefix bytes × (new ≡ put old path prefix))

-- the files before one at this path are whole, that one is cut short, and no later one is begun
abbrev pub IsCutAt : List ℕ → List File → Files → Files → Type 0
IsCutAt path [] old new = ⊥
IsCutAt path (file ∷ later) old new =
    ((path ≡ file.path) × IsCutShort file.path (held_by file) old new) ⊎ IsCutAt path later (put old file.path (held_by file)) new

-- all files are whole, or they are cut short at one of their paths
abbrev pub IsCutIn : List File → Files → Files → Type 0
IsCutIn files old new = (new ≡ written files old) ⊎ ((path : List ℕ) × IsCutAt path files old new)

-- the path is that of one of the files
abbrev pub IsPathIn : List File → List ℕ → Type 0
IsPathIn [] path = ⊥
IsPathIn (file ∷ later) path = (path ≡ file.path) ⊎ IsPathIn later path

-- what one of the files holds exceeds the room of its path
abbrev pub Overfills : (List ℕ → Option ℕ) → List File → Type 0
Overfills room [] = ⊥
Overfills room (file ∷ later) = Exceeds (room file.path) 0 (length (held_by file)) ⊎ Overfills room later
