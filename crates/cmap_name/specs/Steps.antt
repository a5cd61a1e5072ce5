-- What single steps of the code give.
use Rattle.std.specs.Prelude.{◌≡◌, ◌<◌, ◌≤◌, ◌^◌, List, ℕ, ◌++◌}
use Rattle.std.specs.Str.{IsUtf8}
use Rattle.cmap_name.specs.CharacterLayout.{cmap_bytes}
use Rattle.cmap_name.specs.Groups.{FitsGroup}
use Rattle.cmap_name.specs.declared.groups.Group.{Group}

-- bytes are appended of which this holds
pub record Appends (P : List ℕ → Type 0) (old new : List ℕ) : Type 0 where
  pub own : List ℕ
  pub holds : P own
  pub new_are : new ≡ old ++ own

-- a run of characters up to 0xFFFE
pub record FitsBasic (group : Group) : Type 0 where
  pub fits : FitsGroup group
  pub basic : group.last ≤ 0xFFFE

-- a character map of these subtables, of the bytes of one of which this holds
pub record IsMapOf (P : List ℕ → Type 0) (subtables : List ℕ → List (ℕ × List ℕ)) (bytes : List ℕ) : Type 0 where
  pub own : List ℕ
  pub holds : P own
  pub bytes_are : bytes ≡ cmap_bytes (subtables own)

-- an id that fits its field, and a text in UTF-8
pub record IsName (own : ℕ × List ℕ) : Type 0 where
  pub id : own.0 < 2 ^ 16
  pub text : IsUtf8 own.1
