-- Tags (OpenType, "Data Types"): four bytes that name an axis, a vendor or a table.
use Rattle.std.specs.Prelude.{ℕ, Bool, List, [], ◌∷◌, Option, Some, None, nat_le, ◌&&◌, if◌then◌else◌}
use Rattle.std.specs.List.{list_all}

-- ASCII, from the space to the tilde
abbrev pub is_printable : ℕ → Bool
is_printable byte = nat_le 32 byte && nat_le byte 126

-- one to four bytes, filled with spaces
abbrev pub filled : List ℕ → Option (List ℕ)
filled [] = None
filled (a ∷ []) = Some (a ∷ 32 ∷ 32 ∷ 32 ∷ [])
filled (a ∷ b ∷ []) = Some (a ∷ b ∷ 32 ∷ 32 ∷ [])
filled (a ∷ b ∷ c ∷ []) = Some (a ∷ b ∷ c ∷ 32 ∷ [])
filled (a ∷ b ∷ c ∷ d ∷ []) = Some (a ∷ b ∷ c ∷ d ∷ [])
filled (a ∷ b ∷ c ∷ d ∷ e ∷ later) = None

-- the tag that a text writes
unfoldable pub tag_of : List ℕ → Option (List ℕ)
tag_of text = if list_all is_printable text then filled text else None
