-- What the model of a glyph and the regions of its masters are like, so that their tuple variations can be written.
use Rattle.std.specs.Prelude.{◌≡◌, ℕ, ◌<◌, ◌≤◌, List, [], ◌∷◌, length, All, sum}
use Rattle.arrayvec.specs.ArrayVec.{ArrayVec, array_vec_len}
use Rattle.fixpoint.specs.declared.plane.Pair.{Pair}
use Rattle.variation_rules.specs.declared.region.Triple.{Triple}
use Rattle.explicit_points.specs.ExplicitPoints.{IsCount}
use Rattle.region_support.specs.Coordinates.{regions_in}
use Rattle.region_support.specs.Regions.{AreNoneIfIgnored, AreNormalisedRegions}
use Rattle.delta_solve.specs.GlyphModels.{IsTupleWithin}
use Rattle.delta_solve.specs.declared.model.GlyphTuple.{GlyphTuple}

-- the points of the default's drawing
abbrev pub default_points : List GlyphTuple → List Pair
default_points [] = []
default_points (default ∷ tuples) = default.deltas

-- how many there are
abbrev pub point_count : List GlyphTuple → ℕ
point_count tuples = length (default_points tuples)

-- the tuples of at most 128 masters, with deltas of 16 bits for equally many points, at most 4,000
pub record AreGlyphTuples (tuples : List GlyphTuple) : Type 0 where
  pub few : length tuples ≤ 128
  pub few_points : point_count tuples ≤ 4000
  pub alike : All (λ (tuple : GlyphTuple). length tuple.deltas ≡ point_count tuples) tuples
  pub within : All IsTupleWithin tuples

-- The numbers of points of a glyph's contours, and its tuples: contours of 1 to 1,024 points, which are the default's.
pub record IsVariable (lengths : List ℕ) (tuples : List GlyphTuple) : Type 0 where
  pub contours : All IsCount lengths
  pub whole : sum lengths ≡ point_count tuples
  pub tuples_are : AreGlyphTuples tuples

-- regions on so many axes that can be written: normalised, and an axis that doesn't count is 0 throughout
pub record AreWritable (axes : ℕ) (supports : List (ArrayVec Triple)) : Type 0 where
  pub some_axes : 0 < axes
  pub few_axes : axes ≤ 8
  pub axis_each : All (λ (support : ArrayVec Triple). array_vec_len support ≡ axes) supports
  pub normalised : AreNormalisedRegions (regions_in supports)
  pub none_if_ignored : AreNoneIfIgnored (regions_in supports)
