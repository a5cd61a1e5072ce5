-- Which bytes of the table of glyphs are a glyph's (OpenType, "loca"), and what all glyphs mean.
use Rattle.std.specs.Prelude.{ℕ, ◌+◌, ◌-◌, ◌*◌, Bool, true, false, List, [], ◌∷◌, drop, Option, Some, None, if◌then◌else◌, nat_le}
use Rattle.basics.specs.Optional.{◌>>=◌, each}
use Rattle.be_bytes.specs.Reading.{prefix_of, records, uint16, uint32}
use Rattle.glif.specs.declared.shape.Point.{Point}
use Rattle.glyf_loca.specs.SimpleGlyphs.{glyph_in}

-- an offset by `head`'s indexToLocFormat: a long one, or a short one, which is half of it
abbrev pub offset_in : Bool → List ℕ → Option ℕ
offset_in true bytes = uint32 bytes
offset_in false bytes = uint16 bytes >>= λ half. Some (2 * half)

abbrev pub offset_size : Bool → ℕ
offset_size true = 4
offset_size false = 2

-- one offset more than there are glyphs
abbrev pub offsets_in : Bool → ℕ → List ℕ → Option (List ℕ)
offsets_in long glyphs loca = records (offset_in long) (offset_size long) (glyphs + 1) loca

-- the bytes from one offset to another, which isn't before it
abbrev pub between : List ℕ → ℕ → ℕ → Option (List ℕ)
between glyf from to = if nat_le from to then prefix_of (to - from) (drop from glyf) else None

-- the bytes of each glyph, from its offset to the next one
abbrev pub slices_from : List ℕ → ℕ → List ℕ → Option (List (List ℕ))
slices_from glyf from [] = Some []
slices_from glyf from (to ∷ offsets) = do
  own ← between glyf from to
  more ← slices_from glyf to offsets
  Some (own ∷ more)

abbrev pub slices_in : List ℕ → List ℕ → Option (List (List ℕ))
slices_in glyf [] = None
slices_in glyf (from ∷ offsets) = slices_from glyf from offsets

-- the contours of each glyph, by the form of the offsets and the number of glyphs
abbrev pub glyphs_in : Bool → ℕ → List ℕ → List ℕ → Option (List (List (List Point)))
glyphs_in long glyphs loca glyf = do
  offsets ← offsets_in long glyphs loca
  slices ← slices_in glyf offsets
  each glyph_in slices
