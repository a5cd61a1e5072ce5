-- Slots for files in memory, as a list in which of two equal paths the first counts.
use Rattle.std.specs.Prelude.{◌≡◌, ℕ, List, map, Option, None, option_map, option_and_then, bytes_eq, position, slice_get}
use Rattle.std.specs.List.{find}
use Rattle.outside.specs.Files.{Files, put}

-- a path, the most bytes that it may hold, and what it holds once there is a file
pub record SlotState : Type 0 where
  pub path : List ℕ
  pub size : ℕ
  pub held : Option (List ℕ)

-- the first slot with this path
abbrev pub slot_at : List SlotState → List ℕ → Option SlotState
slot_at slots path = find (λ slot. bytes_eq slot.path path) slots

-- what the slots hold
abbrev pub held_in : List SlotState → Files
held_in slots path = option_and_then (λ slot. slot.held) (slot_at slots path)

-- the most bytes that each path may hold
abbrev pub room_in : List SlotState → List ℕ → Option ℕ
room_in slots path = option_map (λ slot. slot.size) (slot_at slots path)

-- the paths of the slots, in order
abbrev pub paths_of : List SlotState → List (List ℕ)
paths_of slots = map (λ slot. slot.path) slots

-- the index of the first of the paths that is this one
abbrev pub index_of : List (List ℕ) → List ℕ → Option ℕ
index_of paths path = position (λ p. bytes_eq p path) paths

-- the path at an index
abbrev pub path_at : List (List ℕ) → Option ℕ → Option (List ℕ)
path_at paths index = option_and_then (slice_get paths) index

-- the index is none, or that of a path which no earlier one equals
abbrev pub IsFirst : List (List ℕ) → Option ℕ → Type 0
IsFirst paths index = option_and_then (index_of paths) (path_at paths index) ≡ index

-- the path holds these bytes now, and all else is as it was
pub record Writes (old new : List SlotState) (path bytes : List ℕ) : Type 0 where
  pub files : held_in new ≡ put (held_in old) path bytes
  pub rooms : room_in new ≡ room_in old
  pub paths : paths_of new ≡ paths_of old

-- a slot with no file
abbrev pub empty_slot : List ℕ × ℕ → SlotState
empty_slot room = record { path = room.0; size = room.1; held = None }
