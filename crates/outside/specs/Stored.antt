-- Bytes in memory that is bounded.
use Rattle.std.specs.Prelude.{ℕ, ◌+◌, ◌-◌, ◌/◌, ◌≤◌, List, [], length, take, Option, Some, None}
use Rattle.outside.specs.Files.{Files, content, Exceeds}

-- how many bytes there may be, and the bytes
pub record Stored : Type 0 where
  pub size : ℕ
  pub bytes : List ℕ

-- the start of a piece that fits beside the bytes held
abbrev pub fitting : ℕ → List ℕ → List ℕ → List ℕ
fitting size held piece = take (size - length held) piece

-- the first half of a piece, rounded down
abbrev pub first_half : List ℕ → List ℕ
first_half piece = take (length piece / 2) piece

-- the bytes held and these fit the room; a path without a room has none
abbrev pub Fits : Option ℕ → ℕ → ℕ → Type 0
Fits None held more = ⊥
Fits (Some room) held more = held + more ≤ room

-- the start of a piece that fits beside the bytes held
abbrev pub fitting_in : Option ℕ → List ℕ → List ℕ → List ℕ
fitting_in None held piece = []
fitting_in (Some room) held piece = fitting room held piece

-- what the path that is begun holds and a piece fit its room
abbrev pub FitsAt : (List ℕ → Option ℕ) → Files → Option (List ℕ) → List ℕ → Type 0
FitsAt room files None piece = ⊥
FitsAt room files (Some path) piece = Fits (room path) (length (content files path)) (length piece)

-- or exceed it
abbrev pub ExceedsAt : (List ℕ → Option ℕ) → Files → Option (List ℕ) → List ℕ → Type 0
ExceedsAt room files None piece = ⊥
ExceedsAt room files (Some path) piece = Exceeds (room path) (length (content files path)) (length piece)

-- the start of a piece that fits at the path that is begun
abbrev pub fitting_at : (List ℕ → Option ℕ) → Files → Option (List ℕ) → List ℕ → List ℕ
fitting_at room files None piece = []
fitting_at room files (Some path) piece = fitting_in (room path) (content files path) piece
