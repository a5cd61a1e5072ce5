use Rattle.std.proofs.Common.{ℕ, ◌≤◌, take, sum_by}
use Rattle.font_build.specs.TableSteps.{AreFound}
use Rattle.font_model.specs.Fit.{points_in}
use Rattle.glyph_variations.specs.Conditions.{AreWritable}
use Rattle.region_support.specs.Coordinates.{regions_in}
use Rattle.font_build.proofs.variations.find.Given as goal

-- the tuples of the glyphs so far, and each number within the limit of all points
abbrev pub invariant-loop-model : goal.invariant-loop-model
invariant-loop-model l = record {
  found : (axes : ℕ) → AreWritable axes l.supports → AreFound axes (regions_in l.supports) (take l.model-index l.models) l.glyphs l.tuples l.explicit l.points;
  tuples_most : l.tuples ≤ sum_by points_in (take l.model-index l.models);
  explicit_most : l.explicit ≤ sum_by points_in (take l.model-index l.models);
  points_most : l.points ≤ sum_by points_in (take l.model-index l.models);
}
