-- The default's outline of a glyph, as its model has it.
use Rattle.std.specs.Prelude.{ℕ, ℤ, pos, Bool, List, [], ◌∷◌, take, drop}
use Rattle.fixpoint.specs.declared.plane.Pair.{Pair}
use Rattle.glif.specs.declared.shape.Point.{Point}
use Rattle.glif.specs.declared.shape.Outline.{Outline}
use Rattle.delta_solve.specs.declared.model.GlyphModel.{GlyphModel}
use Rattle.delta_solve.specs.declared.model.GlyphTuple.{GlyphTuple}
use Rattle.glyph_variations.specs.Conditions.{default_points}

-- points at these positions, each on the curve or off it
abbrev pub points_at : List Bool → List Pair → List Point
points_at (on ∷ more) (pair ∷ pairs) = record { x = pair.x; y = pair.y; on = on } ∷ points_at more pairs
points_at _ _ = []

-- contours of so many points each, one after another
abbrev pub contours_of : List ℕ → List Point → List (List Point)
contours_of [] points = []
contours_of (length ∷ lengths) points = take length points ∷ contours_of lengths (drop length points)

-- the advance width of the default's drawing
abbrev pub default_advance : List GlyphTuple → ℤ
default_advance [] = pos 0
default_advance (default ∷ tuples) = default.advance

-- the default's drawing, which is the first of the model's tuples
abbrev pub default_outline : GlyphModel → Outline
default_outline model = record { advance = default_advance model.tuples; contours = contours_of model.lengths (points_at model.on (default_points model.tuples)) }
