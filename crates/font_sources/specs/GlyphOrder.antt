-- The order of the glyphs of a font, and the `.notdef` that is made where the default source has none.
--
-- The names here are those of the default source's glyphs, each once and in byte order, and the order is the list of
-- names that its `public.glyphOrder` has.
use Rattle.std.specs.Prelude.{ℕ, ℤ, pos, Bool, true, false, not, List, [], ◌∷◌, ◌++◌, codes, map, filter, fold, Option, Some, None, if◌then◌else◌, slice_index_or, slice_set}
use Rattle.std.specs.Int.{int_div_euclid}
use Rattle.std.specs.List.{list_any}
use Rattle.std.specs.Option.{is_some}
use Rattle.std.specs.Str.{bytes_eq}
use Rattle.glif.specs.declared.shape.Drawing.{Drawing}
use Rattle.font_sources.specs.Naming.{position_of}

abbrev pub notdef : List ℕ
notdef = codes ".notdef"

abbrev pub is_among : List (List ℕ) → List ℕ → Bool
is_among names name = is_some (position_of names name)

-- ---- the order

-- a name after others, where it isn't among them; and so each of a list
abbrev pub with_name : List (List ℕ) → List ℕ → List (List ℕ)
with_name names name = if list_any (bytes_eq name) names then names else names ++ name ∷ []

abbrev pub with_names : List (List ℕ) → List (List ℕ) → List (List ℕ)
with_names names more = fold with_name names more

-- those of `.notdef` and the listed names that glyphs have
abbrev pub listed_names : List (List ℕ) → List (List ℕ) → List (List ℕ)
listed_names order names = with_names [] (filter (is_among names) (notdef ∷ order))

-- The names in glyph order: `.notdef` first, then those that the order lists, then the rest; each at its first position
-- there, and none that isn't the name of a glyph.
abbrev pub names_in_order : List (List ℕ) → List (List ℕ) → List (List ℕ)
names_in_order order names = with_names (listed_names order names) names

-- ---- `.notdef`

-- one is made
abbrev pub makes_notdef : List (List ℕ) → Bool
makes_notdef names = not (is_among names notdef)

-- it draws nothing, and is half the em wide, rounded down
abbrev pub made_notdef : ℤ → Drawing
made_notdef units = record { name = notdef; outline = record { advance = int_div_euclid units (pos 2); contours = [] }; components = []; codes = [] }

-- the names of the glyphs of the font in their order, that of a made `.notdef` before the others
abbrev pub glyph_order : Bool → List (List ℕ) → List (List ℕ)
glyph_order true names = notdef ∷ names
glyph_order false names = names

-- and the glyphs of a source, of a font whose default source has these units of the em
abbrev pub with_made : Bool → ℤ → List (Option Drawing) → List (Option Drawing)
with_made true units glyphs = Some (made_notdef units) ∷ glyphs
with_made false units glyphs = glyphs

-- ---- the drawings of the default source

-- the glyph at a position, if there is one
abbrev pub glyph_at : List (Option Drawing) → Option ℕ → Option Drawing
glyph_at glyphs None = None
glyph_at glyphs (Some position) = slice_index_or glyphs position None

-- the glyphs, but for that at a position
abbrev pub without : List (Option Drawing) → Option ℕ → List (Option Drawing)
without glyphs None = glyphs
without glyphs (Some position) = slice_set glyphs position None

-- the glyphs of some names, in their order, off all names and glyphs
abbrev pub glyphs_named : List (List ℕ) → List (Option Drawing) → List (List ℕ) → List (Option Drawing)
glyphs_named names glyphs wanted = map (λ name. glyph_at glyphs (position_of names name)) wanted
