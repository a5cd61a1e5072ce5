-- The model of outlines within limits is one of a glyph whose variations can be made.
use Rattle.std.proofs.Common.{◌≡◌, ℤ, ◌≤◌, List, [], ◌∷◌, length, sum, All, refl, sym, ◌∙◌, ap, subst, arith}
use Rattle.std.proofs.lemmas.List.{length-map}
use Rattle.std.proofs.lemmas.List.Elements.{All-nil}
use Rattle.glif.specs.Limits.{IsWithinLimits}
use Rattle.glif.specs.declared.shape.Outline.{Outline}
use Rattle.explicit_points.specs.ExplicitPoints.{IsCount}
use Rattle.delta_solve.specs.GlyphModels.{AreTuplesBy, IsModelBy, IsTupleWithin, default_of}
use Rattle.delta_solve.specs.Outlines.{all_points, contour_lengths, position, points_of}
use Rattle.delta_solve.specs.declared.model.GlyphModel.{GlyphModel}
use Rattle.delta_solve.specs.declared.model.GlyphTuple.{GlyphTuple}
use Rattle.delta_solve.proofs.GlyphLemmas.{few_points}
use Rattle.glyph_variations.specs.Conditions.{AreGlyphTuples, IsVariable, point_count}
use Rattle.glyph_variations.proofs.DrawsLemmas.{outline_count}
use Rattle.glyph_variations.proofs.GlyphLemmas.{counts_within}

-- it has the points of the default's outline
pub points_of_default : (rows : List (List ℤ)) (outlines : List Outline) (tuples : List GlyphTuple) → AreTuplesBy rows outlines tuples → point_count tuples ≡ length (points_of (default_of outlines))
points_of_default rows [] [] are = refl
points_of_default rows (outline ∷ outlines) [] are = absurd (let count = are.one_each in omega arith)
points_of_default rows outlines (tuple ∷ tuples) are = are.points 0 tuple (omega arith)

default_few : (outlines : List Outline) → All IsWithinLimits outlines → length (points_of (default_of outlines)) ≤ 4000
default_few [] within = omega arith
default_few (outline ∷ outlines) within = omega (arith, length-map (all_points outline) position, few_points outline (within 0 outline (omega arith)))

pub are_glyph_tuples : (rows : List (List ℤ)) (outlines : List Outline) (tuples : List GlyphTuple) → AreTuplesBy rows outlines tuples → All IsTupleWithin tuples → All IsWithinLimits outlines → length outlines ≤ 128 → AreGlyphTuples tuples
are_glyph_tuples rows outlines tuples are within limits few =
    let count = points_of_default rows outlines tuples are in record {
      few = omega (arith, are.one_each);
      few_points = omega (arith, default_few outlines limits);
      alike = λ k d below. are.points k d below ∙ sym count;
      within = within;
    }

-- the contours of the default's outline
default_counts : (outlines : List Outline) → All IsWithinLimits outlines → All IsCount (contour_lengths (default_of outlines))
default_counts [] limits = All-nil IsCount
default_counts (outline ∷ outlines) limits = counts_within outline (limits 0 outline (omega arith))

pub is_variable : (rows : List (List ℤ)) (outlines : List Outline) (model : GlyphModel) → IsModelBy rows outlines model → All IsTupleWithin model.tuples → All IsWithinLimits outlines → length outlines ≤ 128 → IsVariable model.lengths model.tuples
is_variable rows outlines model is within limits few = record {
  contours = subst (All IsCount) (sym is.lengths) (default_counts outlines limits);
  whole = ap sum is.lengths ∙ (outline_count (default_of outlines) ∙ sym (points_of_default rows outlines model.tuples is.tuples));
  tuples_are = are_glyph_tuples rows outlines model.tuples is.tuples within limits few;
}
