-- The outlines of each glyph, one a master in the order of masters.
use Rattle.std.specs.Prelude.{ℕ, pos, List, [], ◌∷◌, map, slice_index_or}
use Rattle.variation_rules.specs.PackedPoints.{count_from}
use Rattle.glif.specs.declared.shape.Outline.{Outline}
use Rattle.font_project.specs.declared.outlined.OutlinedSource.{OutlinedSource}

abbrev pub no_outlines : OutlinedSource
no_outlines = record { folder = []; outlines = [] }

-- the outlines of each master
abbrev pub rows_in : List OutlinedSource → List ℕ → List (List Outline)
rows_in sources order = map (λ number. (slice_index_or sources number no_outlines).outlines) order

abbrev pub nothing : Outline
nothing = record { advance = pos 0; contours = [] }

-- those of the glyph of this number
abbrev pub column : List (List Outline) → ℕ → List Outline
column rows glyph = map (λ row. slice_index_or row glyph nothing) rows

-- those of each of so many glyphs
abbrev pub columns : List (List Outline) → ℕ → List (List Outline)
columns rows count = map (column rows) (count_from count 0)

-- ---- on the way

abbrev pub first_or_nothing : List Outline → Outline
first_or_nothing [] = nothing
first_or_nothing (outline ∷ outlines) = outline

abbrev pub rest_of : List Outline → List Outline
rest_of [] = []
rest_of (outline ∷ outlines) = outlines
