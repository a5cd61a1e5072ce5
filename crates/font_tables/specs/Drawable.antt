-- The models whose default can be drawn.
use Rattle.std.specs.Prelude.{◌≡◌, length, sum}
use Rattle.delta_solve.specs.declared.model.GlyphModel.{GlyphModel}
use Rattle.glyph_variations.specs.Conditions.{point_count}

-- the contours have all points, and each point is on the curve or off it
pub record IsDrawable (model : GlyphModel) : Type 0 where
  pub contours : sum model.lengths ≡ point_count model.tuples
  pub kinds : length model.on ≡ point_count model.tuples
