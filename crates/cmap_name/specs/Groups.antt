-- Maximal runs of following characters with following glyphs.
use Rattle.std.specs.Prelude.{ℕ, ◌+◌, ◌-◌, ◌^◌, ◌<◌, ◌≤◌, Bool, ◌&&◌, List, [], ◌∷◌, if◌then◌else◌, nat_eq, nat_le, nat_lt}
use Rattle.cmap_name.specs.declared.groups.Group.{Group}

-- whether the next run begins where this one would go on
abbrev pub goes_on : Group → Group → Bool
goes_on group next =
    nat_eq next.first (group.last + 1) && nat_eq next.glyph (group.glyph + (group.last + 1 - group.first))

-- one run more before maximal ones
abbrev pub joined : Group → List Group → List Group
joined group [] = group ∷ []
joined group (next ∷ groups) =
    if goes_on group next then record { first = group.first; last = next.last; glyph = group.glyph } ∷ groups
    else group ∷ next ∷ groups

-- a character by itself
abbrev pub one : ℕ × ℕ → Group
one own = record { first = own.0; last = own.0; glyph = own.1 }

abbrev pub groups_of : List (ℕ × ℕ) → List Group
groups_of [] = []
groups_of (own ∷ codes) = joined (one own) (groups_of codes)

-- the codes up to 0xFFFE, where codes rise
abbrev pub basic_codes : List (ℕ × ℕ) → List (ℕ × ℕ)
basic_codes [] = []
basic_codes (own ∷ codes) = if nat_le own.0 0xFFFE then own ∷ basic_codes codes else []

-- whether a code is beyond those that 16 bits hold
abbrev pub exceeds : ℕ × ℕ → Bool
exceeds own = nat_lt 0xFFFF own.0

-- a run of characters, whose glyphs are 16-bit numbers
pub record FitsGroup (group : Group) : Type 0 where
  pub ordered : group.first ≤ group.last
  pub unicode : group.last ≤ 0x10_FFFF
  pub glyphs : group.glyph + (group.last - group.first) < 2 ^ 16
