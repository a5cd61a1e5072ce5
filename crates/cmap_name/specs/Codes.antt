-- Characters with their glyphs, as a font is given them.
use Rattle.std.specs.Prelude.{◌≡◌, ℕ, ◌+◌, ◌≤◌, List, [], ◌∷◌, All, if◌then◌else◌, nat_eq}

-- the glyph of a character, and 0 where it isn't named
abbrev pub glyph_of : List (ℕ × ℕ) → ℕ → ℕ
glyph_of [] c = 0
glyph_of (own ∷ codes) c = if nat_eq own.0 c then own.1 else glyph_of codes c

-- the first of each pair rises, from this number on
abbrev pub Rise : {A : Type 0} → ℕ → List (ℕ × A) → Type 0
Rise n [] = Unit {0}
Rise n (own ∷ others) = (n ≤ own.0) × Rise (own.0 + 1) others

-- a character that a map of format 4 can name, of those up to 0xFFFF
pub record IsCharacter (own : ℕ × ℕ) : Type 0 where
  pub unicode : own.0 ≤ 0x10_FFFF
  pub named : ¬ (own.0 ≡ 0xFFFF)

-- what a character map can be made of
pub record AreCodes (codes : List (ℕ × ℕ)) : Type 0 where
  pub rise : Rise 0 codes
  pub each : All IsCharacter codes
