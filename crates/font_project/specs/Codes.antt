-- The glyph of each code point.
use Rattle.std.specs.Prelude.{ℕ, ◌+◌, List, [], ◌∷◌, fold, All}
use Rattle.std.specs.Ordering.{nat_cmp}
use Rattle.std.specs.BTreeMap.{insert_entry}
use Rattle.glif.specs.Limits.{IsCodePoint}
use Rattle.glif.specs.declared.shape.Drawing.{Drawing}

-- those of one glyph put among the others, which rise
abbrev pub with_codes : List (ℕ × ℕ) → ℕ → List ℕ → List (ℕ × ℕ)
with_codes done glyph codes = fold (λ entries code. insert_entry nat_cmp entries code glyph) done codes

-- those of drawings of which the first is the glyph of this number
abbrev pub codes_from : List (ℕ × ℕ) → ℕ → List Drawing → List (ℕ × ℕ)
codes_from done glyph [] = done
codes_from done glyph (drawing ∷ drawings) = codes_from (with_codes done glyph drawing.codes) (glyph + 1) drawings

-- each code point with the number of its glyph, by rising code points
unfoldable pub codes_of : List Drawing → List (ℕ × ℕ)
codes_of drawings = codes_from [] 0 drawings

-- all code points of the drawing are such as a glyph may have
abbrev pub HasCodePoints : Drawing → Type 0
HasCodePoints drawing = All IsCodePoint drawing.codes
