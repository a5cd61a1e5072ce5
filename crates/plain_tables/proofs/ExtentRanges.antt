-- What is told of glyphs within limits has 16 bits.
use Rattle.std.proofs.Common.{◌≡◌, ℕ, ◌^◌, ◌<◌, ◌≤◌, max, ℤ, pos, List, [], ◌∷◌, fold, map, FitsSigned, arith}
use Rattle.std.proofs.lemmas.Int.{ints}
use Rattle.std.proofs.lemmas.List.Elements.{All-contains, All-filter, All-from_recursion, All-map, All-weaker, recursion_from_All}
use Rattle.std.specs.Prelude.{All}
use Rattle.std.specs.Int.{w16}
use Rattle.std.specs.List.{AllByRecursion}
use Rattle.glyf_loca.specs.Bounds.{greatest, least}
use Rattle.glyf_loca.specs.declared.extent.Bounds.{Bounds}
use Rattle.glyf_loca.proofs.BoundsLemmas.{greatest_is, least_is}
use Rattle.plain_tables.specs.Conditions.{AreFacts, AreLengthsWithin, IsGlyphWithin}
use Rattle.plain_tables.specs.GlyphMeasures.{counts_of, drawn, extent_of, glyphs_from, glyphs_of, is_drawn, right_bearing}
use Rattle.plain_tables.specs.declared.facts.Facts.{Facts}
use Rattle.plain_tables.specs.declared.glyphs.Glyph.{Glyph}
use Rattle.plain_tables.specs.declared.measures.Counts.{Counts}
use Rattle.plain_tables.specs.declared.measures.Extent.{Extent}
use Rattle.plain_tables.proofs.GlyphLemmas.{glyphs_within}

pub record FitsBounds (bounds : Bounds) : Type 0 where
  pub x_min : FitsSigned w16 bounds.x_min
  pub y_min : FitsSigned w16 bounds.y_min
  pub x_max : FitsSigned w16 bounds.x_max
  pub y_max : FitsSigned w16 bounds.y_max

pub record FitsExtent (extent : Extent) : Type 0 where
  pub bounds : FitsBounds extent.bounds
  pub right : FitsSigned w16 extent.right

pub record FitsCounts (counts : Counts) : Type 0 where
  pub points : counts.points < 2 ^ 16
  pub contours : counts.contours < 2 ^ 16

-- ---- the extent

least_fits : (zs : List ℤ) → All (FitsSigned w16) zs → FitsSigned w16 (least zs)
least_fits [] each = omega (arith, ints)
least_fits (z ∷ zs) each = All-contains (FitsSigned w16) (z ∷ zs) (least (z ∷ zs)) each (least_is z zs).there

greatest_fits : (zs : List ℤ) → All (FitsSigned w16) zs → FitsSigned w16 (greatest zs)
greatest_fits [] each = omega (arith, ints)
greatest_fits (z ∷ zs) each = All-contains (FitsSigned w16) (z ∷ zs) (greatest (z ∷ zs)) each (greatest_is z zs).there

-- a number of each glyph that has contours
each_fits : (f : Glyph → ℤ) → ((glyph : Glyph) → IsGlyphWithin glyph → FitsSigned w16 (f glyph)) → (glyphs : List Glyph) → All IsGlyphWithin glyphs → All (FitsSigned w16) (map f (drawn glyphs))
each_fits f fits glyphs each =
    All-map (FitsSigned w16) f (drawn glyphs) (All-weaker IsGlyphWithin (λ glyph. FitsSigned w16 (f glyph)) fits (drawn glyphs) (All-filter is_drawn IsGlyphWithin glyphs each))

extent_fits : (glyphs : List Glyph) → All IsGlyphWithin glyphs → FitsExtent (extent_of glyphs)
unfolding extent_of
extent_fits glyphs each = record {
  bounds = record {
    x_min = least_fits _ (each_fits (λ g. g.bounds.x_min) (λ g own. omega (arith, ints, own.bounds.least_x_min, own.bounds.greatest_x_min)) glyphs each);
    y_min = least_fits _ (each_fits (λ g. g.bounds.y_min) (λ g own. omega (arith, ints, own.bounds.least_y_min, own.bounds.greatest_y_min)) glyphs each);
    x_max = greatest_fits _ (each_fits (λ g. g.bounds.x_max) (λ g own. omega (arith, ints, own.bounds.least_x_max, own.bounds.greatest_x_max)) glyphs each);
    y_max = greatest_fits _ (each_fits (λ g. g.bounds.y_max) (λ g own. omega (arith, ints, own.bounds.least_y_max, own.bounds.greatest_y_max)) glyphs each);
  };
  right = least_fits _ (each_fits right_bearing (λ g own. omega (arith, ints, own.advance.least, own.advance.greatest, own.bounds.least_x_max, own.bounds.greatest_x_max)) glyphs each);
}

pub facts_fit : (facts : Facts) → AreFacts facts → FitsExtent (extent_of (glyphs_of facts))
facts_fit facts own = extent_fits (glyphs_of facts) (All-from_recursion IsGlyphWithin (glyphs_of facts) (glyphs_within facts own))

-- ---- points and contours

abbrev AreFew : Glyph → Type 0
AreFew glyph = (glyph.points ≤ 4000) × (glyph.contours ≤ 4000)

few_each : (advances : List ℤ) (bounds : List Bounds) (lengths : List (ℕ × ℕ)) → AllByRecursion AreLengthsWithin lengths → AllByRecursion AreFew (glyphs_from advances bounds lengths)
few_each [] bounds lengths each = tt
few_each (advance ∷ advances) [] lengths each = tt
few_each (advance ∷ advances) (own ∷ bounds) [] each = tt
few_each (advance ∷ advances) (own ∷ bounds) (pair ∷ lengths) each =
    ((each.0.points, omega (arith, each.0.points, each.0.contours)), few_each advances bounds lengths each.1)

most_points : (before : ℕ) (glyphs : List Glyph) → before ≤ 4000 → AllByRecursion AreFew glyphs → fold max before (map (λ glyph. glyph.points) glyphs) ≤ 4000
most_points before [] low each = low
most_points before (glyph ∷ glyphs) low each = most_points (max before glyph.points) glyphs (omega (arith, each.0.0)) each.1

most_contours : (before : ℕ) (glyphs : List Glyph) → before ≤ 4000 → AllByRecursion AreFew glyphs → fold max before (map (λ glyph. glyph.contours) glyphs) ≤ 4000
most_contours before [] low each = low
most_contours before (glyph ∷ glyphs) low each = most_contours (max before glyph.contours) glyphs (omega (arith, each.0.1)) each.1

pub counts_fit : (facts : Facts) → AreFacts facts → FitsCounts (counts_of (glyphs_of facts))
unfolding counts_of
counts_fit facts own =
    let each = few_each facts.advances facts.bounds facts.lengths (recursion_from_All AreLengthsWithin facts.lengths own.lengths) in
    record {
      points = omega (arith, most_points 0 (glyphs_of facts) (omega arith) each);
      contours = omega (arith, most_contours 0 (glyphs_of facts) (omega arith) each);
    }
