-- The outlines that a font draws without variation: those of the default.
use Rattle.std.specs.Prelude.{ℕ, Bool, List, length, map, nat_lt, sum_by}
use Rattle.font_model.specs.DefaultOutline.{default_outline}
use Rattle.font_model.specs.declared.parts.Project.{Project}
use Rattle.glif.specs.declared.shape.Outline.{Outline}
use Rattle.glyf_loca.specs.Layout.{contours_of, glyf_bytes}

-- the default's outline of each glyph
abbrev pub outlines_of : Project → List Outline
outlines_of project = map default_outline project.models

-- how many points an outline has, and how many contours
abbrev pub lengths_of : Outline → ℕ × ℕ
lengths_of outline = (sum_by length outline.contours, length outline.contours)

-- short offsets in table `loca` don't reach to the end of these glyphs
abbrev pub needs_long_offsets : List Outline → Bool
needs_long_offsets outlines = nat_lt 131070 (length (glyf_bytes (contours_of outlines)))
