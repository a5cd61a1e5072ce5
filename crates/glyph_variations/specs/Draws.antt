-- What the tuple variations of a glyph draw: at every location what the model of its masters gives there, and at each
-- master's location, rounded, that master's drawing.
use Rattle.std.specs.Prelude.{◌≡◌, ℕ, ℤ, ◌<◌, List, [], length, map, All, slice_index_or}
use Rattle.fixpoint.specs.Rounding.{round_up}
use Rattle.fixpoint.specs.declared.plane.Pair.{Pair}
use Rattle.glif.specs.Limits.{IsWithinLimits}
use Rattle.glif.specs.declared.shape.Outline.{Outline}
use Rattle.variation_rules.specs.DrawnOutline.{Fills, drawn, drawn_advance}
use Rattle.variation_rules.specs.declared.region.Triple.{Triple}
use Rattle.variation_rules.specs.declared.tuple.TupleVariation.{TupleVariation}
use Rattle.region_support.specs.MasterOrder.{AreMasters}
use Rattle.region_support.specs.Regions.{regions_of}
use Rattle.delta_solve.specs.Deltas.{deltas_of, model_value}
use Rattle.delta_solve.specs.GlyphModels.{IsModelOf, IsTupleWithin, default_of}
use Rattle.delta_solve.specs.Outlines.{advance_of, contour_lengths, points_of, x_of, y_of}
use Rattle.delta_solve.specs.declared.model.GlyphModel.{GlyphModel}
use Rattle.glyph_variations.specs.Variations.{AreVariations}

-- the outline of the master of this number
abbrev pub outline_at : List Outline → ℕ → Outline
outline_at outlines master = slice_index_or outlines master (default_of outlines)

-- Over the default's drawing the tuples give, for each number of the outlines, one a master, the value of the model at
-- every location.
pub record DrawsModel (regions : List (List Triple)) (locations : List (List ℤ)) (outlines : List Outline) (tuples : List TupleVariation) (fills : List (List Pair)) : Type 0 where
  pub xs : (at : List ℤ) (point : ℕ) → point < length (points_of (default_of outlines)) →
      drawn (λ (pair : Pair). pair.x) (points_of (default_of outlines)) at tuples fills point ≡ model_value regions (deltas_of regions locations (map (x_of point) outlines)) at
  pub ys : (at : List ℤ) (point : ℕ) → point < length (points_of (default_of outlines)) →
      drawn (λ (pair : Pair). pair.y) (points_of (default_of outlines)) at tuples fills point ≡ model_value regions (deltas_of regions locations (map (y_of point) outlines)) at
  pub advances : (at : List ℤ) →
      drawn_advance (advance_of (default_of outlines)) (length (points_of (default_of outlines))) at tuples ≡ model_value regions (deltas_of regions locations (map advance_of outlines)) at

-- At the location of each master they give, rounded to the nearest number with a tie going up, its own drawing.
pub record DrawsMasters (locations : List (List ℤ)) (outlines : List Outline) (tuples : List TupleVariation) (fills : List (List Pair)) : Type 0 where
  pub xs : (master : ℕ) (point : ℕ) → master < length outlines → point < length (points_of (default_of outlines)) →
      round_up (drawn (λ (pair : Pair). pair.x) (points_of (default_of outlines)) (slice_index_or locations master []) tuples fills point) 65536 ≡ x_of point (outline_at outlines master)
  pub ys : (master : ℕ) (point : ℕ) → master < length outlines → point < length (points_of (default_of outlines)) →
      round_up (drawn (λ (pair : Pair). pair.y) (points_of (default_of outlines)) (slice_index_or locations master []) tuples fills point) 65536 ≡ y_of point (outline_at outlines master)
  pub advances : (master : ℕ) → master < length outlines →
      round_up (drawn_advance (advance_of (default_of outlines)) (length (points_of (default_of outlines))) (slice_index_or locations master []) tuples) 65536 ≡ advance_of (outline_at outlines master)

-- There are deltas that fill the default's outline in each tuple, and with them both hold.
pub record Draws (regions : List (List Triple)) (locations : List (List ℤ)) (outlines : List Outline) (tuples : List TupleVariation) : Type 0 where
  pub fills : List (List Pair)
  pub are_fills : Fills (contour_lengths (default_of outlines)) (points_of (default_of outlines)) tuples fills
  pub model : DrawsModel regions locations outlines tuples fills
  pub masters : DrawsMasters locations outlines tuples fills

-- it holds of the model of any masters in their order
abbrev pub ModelsAreDrawn : Type 0
ModelsAreDrawn = (axes : ℕ) (locations : List (List ℤ)) (outlines : List Outline) (model : GlyphModel) (found : List TupleVariation)
    → AreMasters axes locations → All IsWithinLimits outlines → All IsTupleWithin model.tuples
    → IsModelOf (regions_of locations) locations outlines model → AreVariations model.lengths (regions_of locations) model.tuples found
    → Draws (regions_of locations) locations outlines found
