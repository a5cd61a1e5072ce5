-- What files hold, as a function from a path to its bytes, and what a write makes of them.
use Rattle.std.specs.Prelude.{◌≡◌, ℕ, ◌+◌, ◌-◌, ◌^◌, ◌≤◌, ◌<◌, min, max, List, [], ◌++◌, Option, Some, None, Result, Ok, Err, unwrap_or, if◌then◌else◌}
use Rattle.std.specs.Str.{bytes_eq}

-- the bytes of each path, None where there is no file
abbrev pub Files : Type 0
Files = List ℕ → Option (List ℕ)

-- the path holds these bytes, and every other path what it held
abbrev pub put : Files → List ℕ → List ℕ → Files
put files path bytes q = if bytes_eq path q then Some bytes else files q

-- what a path holds, nothing where there is no file
abbrev pub content : Files → List ℕ → List ℕ
content files path = unwrap_or (files path) []

-- the bytes go to the end of the path that is begun; with none begun nothing changes
abbrev pub add : Files → Option (List ℕ) → List ℕ → Files
add files None bytes = files
add files (Some path) bytes = put files path (content files path ++ bytes)

-- the first list is a prefix of the second
abbrev pub IsPrefix : List ℕ → List ℕ → Type 0
IsPrefix prefix whole = (rest : List ℕ) × (prefix ++ rest ≡ whole)

-- a count of faults rose; one that stands at the end of 64 bits counts as risen where it doesn't fall
abbrev pub HasRisen : ℕ → ℕ → Type 0
HasRisen before after = max before (min (before + 1) (2 ^ 64 - 1)) ≤ after

-- a count of faults never falls, and rises with each failure
abbrev pub Counts : {X E : Type 0} → ℕ → ℕ → Result X E → Type 0
Counts before after (Ok _) = before ≤ after
Counts before after (Err _) = HasRisen before after

-- the bytes held and these don't fit the room; a path without a room has none
abbrev pub Exceeds : Option ℕ → ℕ → ℕ → Type 0
Exceeds None held more = Unit {0}
Exceeds (Some room) held more = room < held + more
