-- The glyph of masters: its variation data, what is said of them, and what they draw.
use Rattle.std.specs.Prelude.{◌≡◌, ℕ, ◌+◌, List, [], length}
use Rattle.variation_rules.specs.TupleVariations.{MeansTuples}
use Rattle.variation_rules.specs.declared.region.Triple.{Triple}
use Rattle.variation_rules.specs.declared.tuple.TupleVariation.{TupleVariation}
use Rattle.region_support.specs.MasterOrder.{axes_of}
use Rattle.region_support.specs.Regions.{regions_of}
use Rattle.delta_solve.specs.Outlines.{points_of}
use Rattle.delta_solve.specs.GlyphModels.{IsModelOf, default_of}
use Rattle.delta_solve.specs.declared.model.GlyphModel.{GlyphModel}
use Rattle.gvar_table.specs.Layout.{IsWritten}
use Rattle.glyph_variations.specs.Variations.{AreVariations, explicit_points, outline_points}
use Rattle.glyph_variations.specs.Draws.{Draws}
use Rattle.vfb.specs.Lines.{counts_line}
use Rattle.vfb.specs.Masters.{Masters}

-- how many points the default's outline has
abbrev pub outline_count : Masters → ℕ
outline_count masters = length (points_of (default_of masters.outlines))

-- how many points the glyph has, its four phantom points among them
abbrev pub all_count : Masters → ℕ
all_count masters = outline_count masters + 4

abbrev pub axis_count : Masters → ℕ
axis_count masters = axes_of masters.locations

-- the region of each master
abbrev pub regions : Masters → List (List Triple)
regions masters = regions_of masters.locations

-- The bytes are the one spelling of the tuple variations of the masters' model, which name on each contour its least set
-- of points, and the text is the line of their counts. (A model has one list of tuple variations: a law of theirs.)
pub record IsDataOf (masters : Masters) (bytes text : List ℕ) : Type 0 where
  pub model : GlyphModel
  pub tuples : List TupleVariation
  pub is_model : IsModelOf (regions masters) masters.locations masters.outlines model
  pub are_its : AreVariations model.lengths (regions masters) model.tuples tuples
  pub written : IsWritten (all_count masters) bytes tuples
  pub counted : text ≡ counts_line (length tuples) (explicit_points (outline_count masters) tuples) (outline_points (outline_count masters) tuples)

-- The bytes are glyph variation data. Drawn over the default's drawing they give at every location, for each coordinate
-- and for the advance, the value of the support model; and at each master's own location, rounded, what it draws.
-- (Bytes mean one list of tuples at most, and tuples fill an outline in one way: both are laws of the meaning.)
pub record IsDrawnBy (masters : Masters) (bytes : List ℕ) : Type 0 where
  pub tuples : List TupleVariation
  pub means : MeansTuples (axis_count masters) (all_count masters) [] bytes tuples
  pub draws : Draws (regions masters) masters.locations masters.outlines tuples
