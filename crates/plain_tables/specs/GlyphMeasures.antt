-- What tables tell of all glyphs together: extremes, sums and counts.
use Rattle.std.specs.Prelude.{ℕ, max, ℤ, pos, ◌+ℤ◌, ◌-ℤ◌, Bool, true, false, not, List, [], ◌∷◌, length, fold, map, filter, nat_eq, int_lt, if◌then◌else◌}
use Rattle.fixpoint.specs.Rounding.{round_up}
use Rattle.glyf_loca.specs.Bounds.{greatest, least}
use Rattle.glyf_loca.specs.declared.extent.Bounds.{Bounds}
use Rattle.plain_tables.specs.declared.facts.Facts.{Facts}
use Rattle.plain_tables.specs.declared.glyphs.Glyph.{Glyph}
use Rattle.plain_tables.specs.declared.measures.Counts.{Counts}
use Rattle.plain_tables.specs.declared.measures.Extent.{Extent}
use Rattle.plain_tables.specs.declared.measures.Measures.{Measures}
use Rattle.plain_tables.specs.declared.measures.Widths.{Widths}

-- ---- glyphs

-- what is told of each glyph, in glyph order
abbrev pub glyphs_from : List ℤ → List Bounds → List (ℕ × ℕ) → List Glyph
glyphs_from (advance ∷ advances) (own ∷ bounds) (pair ∷ lengths) =
    record { advance = advance; bounds = own; points = pair.0; contours = pair.1 } ∷ glyphs_from advances bounds lengths
glyphs_from _ _ _ = []

abbrev pub glyphs_of : Facts → List Glyph
glyphs_of facts = glyphs_from facts.advances facts.bounds facts.lengths

-- it has contours
abbrev pub is_drawn : Glyph → Bool
is_drawn glyph = not (nat_eq glyph.contours 0)

-- the glyphs that have contours
abbrev pub drawn : List Glyph → List Glyph
drawn glyphs = filter is_drawn glyphs

-- ---- of the glyphs that have contours

-- from a glyph's rightmost point to its advance width
abbrev pub right_bearing : Glyph → ℤ
right_bearing glyph = glyph.advance -ℤ glyph.bounds.x_max

-- there are some
abbrev pub are_some : List Glyph → Bool
are_some [] = false
are_some (glyph ∷ glyphs) = true

-- the box round all their points, and the least right bearing; 0 each where there is no glyph
abbrev pub bounds_from : List Glyph → Bounds
bounds_from glyphs = record {
  x_min = least (map (λ glyph. glyph.bounds.x_min) glyphs);
  y_min = least (map (λ glyph. glyph.bounds.y_min) glyphs);
  x_max = greatest (map (λ glyph. glyph.bounds.x_max) glyphs);
  y_max = greatest (map (λ glyph. glyph.bounds.y_max) glyphs);
}

abbrev pub extent_from : List Glyph → Extent
extent_from glyphs = record { some = are_some glyphs; bounds = bounds_from glyphs; right = least (map right_bearing glyphs) }

unfoldable pub extent_of : List Glyph → Extent
extent_of glyphs = extent_from (drawn glyphs)

-- ---- of all glyphs

-- the advance widths above 0
abbrev pub above_zero : List ℤ → List ℤ
above_zero advances = filter (λ advance. int_lt (pos 0) advance) advances

-- the sum of numbers
abbrev pub total : List ℤ → ℤ
total numbers = fold ◌+ℤ◌ (pos 0) numbers

-- the greatest advance width, and how many are above 0, with their sum
unfoldable pub widths_from : List ℤ → Widths
widths_from advances = record {
  widest = greatest advances;
  count = length (above_zero advances);
  sum = total (above_zero advances);
}

abbrev pub widths_of : List Glyph → Widths
widths_of glyphs = widths_from (map (λ glyph. glyph.advance) glyphs)

-- their average, rounded to the nearest number, a tie going up; 0 where none is above 0
unfoldable pub average_of : Widths → ℤ
average_of widths = if nat_eq widths.count 0 then pos 0 else round_up widths.sum widths.count

-- the greatest of numbers; 0 where there are none
abbrev pub most : List ℕ → ℕ
most numbers = fold max 0 numbers

-- the most points and the most contours of a glyph
unfoldable pub counts_of : List Glyph → Counts
counts_of glyphs = record {
  points = most (map (λ glyph. glyph.points) glyphs);
  contours = most (map (λ glyph. glyph.contours) glyphs);
}

abbrev pub measures_of : List Glyph → Measures
measures_of glyphs = record { extent = extent_of glyphs; widths = widths_of glyphs; counts = counts_of glyphs }
