-- How much of variations a font has, added up over its glyphs.
use Rattle.std.specs.Prelude.{◌≡◌, ℕ, ◌+◌, List, ◌∷◌, length}
use Rattle.std.specs.List.{AllZip}
use Rattle.delta_solve.specs.declared.model.GlyphModel.{GlyphModel}
use Rattle.font_build.specs.declared.built.Built.{Built}
use Rattle.font_model.specs.declared.parts.Project.{Project}
use Rattle.glyph_variations.specs.Conditions.{point_count}
use Rattle.glyph_variations.specs.Variations.{AreVariations, explicit_points, outline_points}
use Rattle.region_support.specs.Coordinates.{regions_in}
use Rattle.variation_rules.specs.declared.region.Triple.{Triple}
use Rattle.variation_rules.specs.declared.tuple.TupleVariation.{TupleVariation}

-- the tuples of a glyph are those of its model
abbrev pub AreOf : List (List Triple) → GlyphModel → List TupleVariation → Type 0
AreOf regions model tuples = AreVariations model.lengths regions model.tuples tuples

-- a number of each glyph with its tuples, added up
abbrev pub total : (GlyphModel → List TupleVariation → ℕ) → List GlyphModel → List (List TupleVariation) → ℕ
total count (model ∷ models) (tuples ∷ glyphs) = count model tuples + total count models glyphs
total count _ _ = 0

-- how many tuples there are; how many outline points they name; and how many outline points there are in all of them
pub record AreCounted (regions : List (List Triple)) (models : List GlyphModel) (tuples explicit points : ℕ) : Type 0 where
  pub glyphs : List (List TupleVariation)
  pub are : AllZip (AreOf regions) models glyphs
  pub tuples_are : tuples ≡ total (λ model own. length own) models glyphs
  pub explicit_are : explicit ≡ total (λ model own. explicit_points (point_count model.tuples) own) models glyphs
  pub points_are : points ≡ total (λ model own. outline_points (point_count model.tuples) own) models glyphs

abbrev pub IsCounted : Project → Built → Type 0
IsCounted project built = AreCounted (regions_in project.supports) project.models built.tuples built.explicit built.points
