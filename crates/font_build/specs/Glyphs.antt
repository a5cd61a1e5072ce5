-- What a font has of a glyph: over its model, so that it means the same whatever masters the model is of.
use Rattle.std.specs.Prelude.{◌≡◌, ℕ, ℤ, ◌+◌, List, [], map, length, All, Some, slice_get}
use Rattle.delta_solve.specs.Deltas.{deltas_of, model_value}
use Rattle.delta_solve.specs.GlyphModels.{IsModelOf, default_of, delta_advance}
use Rattle.delta_solve.specs.Outlines.{advance_of}
use Rattle.delta_solve.specs.declared.model.GlyphModel.{GlyphModel}
use Rattle.font_build.specs.FontReading.{advance_in, outline_in}
use Rattle.font_build.specs.FontTags.{GVAR}
use Rattle.font_model.specs.DefaultOutline.{default_outline}
use Rattle.font_model.specs.declared.parts.Project.{Project}
use Rattle.glif.specs.Limits.{IsWithinLimits}
use Rattle.glif.specs.declared.shape.Outline.{Outline}
use Rattle.glyph_variations.specs.Conditions.{point_count}
use Rattle.glyph_variations.specs.Draws.{Draws}
use Rattle.glyph_variations.specs.Variations.{AreVariations}
use Rattle.region_support.specs.Coordinates.{regions_in}
use Rattle.region_support.specs.MasterOrder.{AreMasters}
use Rattle.region_support.specs.Regions.{regions_of}
use Rattle.sfnt_write.specs.Holds.{HasTable}
use Rattle.variation_rules.specs.TupleVariations.{MeansTuples, PacksTuples}
use Rattle.variation_rules.specs.VariationsTable.{IsVariationsTable, glyph_slice}
use Rattle.variation_rules.specs.declared.region.Triple.{Triple}
use Rattle.variation_rules.specs.declared.tuple.TupleVariation.{TupleVariation}

-- A table of variations on so many axes, of so many glyphs and without shared peaks, whose data of the glyph of this
-- number, which has so many points, phantom points included, are these tuples, in lists of maximal runs.
pub record HasTuples (axes glyphs points glyph : ℕ) (tuples : List TupleVariation) (gvar : List ℕ) : Type 0 where
  pub table : IsVariationsTable axes glyphs [] gvar
  pub means : MeansTuples axes points [] (glyph_slice gvar glyph) tuples
  pub packs : PacksTuples axes points [] (glyph_slice gvar glyph) tuples

-- The font draws the masters of these outlines: its tuples, over the default's outline, which it has as that master has
-- it, draw at every location what the model of the masters does, and each master's own outline at its location. So does
-- its advance.
pub record DrawsOutlines (file : List ℕ) (glyph : ℕ) (tuples : List TupleVariation) (locations : List (List ℤ)) (outlines : List Outline) : Type 0 where
  pub default : outline_in file glyph ≡ Some (default_of outlines).contours
  pub draws : Draws (regions_of locations) locations outlines tuples
  pub advance : (at : List ℤ) → advance_in file glyph at ≡ Some (model_value (regions_of locations) (deltas_of (regions_of locations) locations (map advance_of outlines)) at)

-- The glyph of this number, of a font on so many axes and of so many glyphs, is that of this model over these regions:
-- its outline is the default's; its tuples are the ones with least sets of explicit points; its advance is the model's
-- at every location; and it draws each list of masters whose model this is.
pub record IsGlyphOf (axes glyphs : ℕ) (regions : List (List Triple)) (file : List ℕ) (glyph : ℕ) (model : GlyphModel) : Type 0 where
  pub outline : outline_in file glyph ≡ Some (default_outline model).contours
  pub tuples : List TupleVariation
  pub written : HasTable file GVAR (HasTuples axes glyphs (point_count model.tuples + 4) glyph tuples)
  pub least : AreVariations model.lengths regions model.tuples tuples
  pub advance : (at : List ℤ) → advance_in file glyph at ≡ Some (model_value regions (map delta_advance model.tuples) at)
  pub draws : (locations : List (List ℤ)) (outlines : List Outline) → AreMasters axes locations → regions ≡ regions_of locations
      → All IsWithinLimits outlines → IsModelOf (regions_of locations) locations outlines model
      → DrawsOutlines file glyph tuples locations outlines

-- each glyph of the project
abbrev pub HasGlyphs : Project → List ℕ → Type 0
HasGlyphs project file =
    (glyph : ℕ) (model : GlyphModel) → slice_get project.models glyph ≡ Some model
    → IsGlyphOf (length project.design.axes) (length project.models) (regions_in project.supports) file glyph model
