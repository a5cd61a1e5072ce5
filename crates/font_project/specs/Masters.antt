-- The masters of a font as its glyphs' deltas are computed from them.
use Rattle.std.specs.Prelude.{◌≡◌, ℕ, ℤ, ◌<◌, ◌≤◌, List, length, All}
use Rattle.glif.specs.Limits.{IsWithinLimits}
use Rattle.glif.specs.declared.shape.Outline.{Outline}
use Rattle.variation_rules.specs.declared.region.Triple.{Triple}
use Rattle.region_support.specs.Coordinates.{coordinates_of, regions_in}
use Rattle.region_support.specs.MasterOrder.{AreMasters, axes_of}
use Rattle.region_support.specs.Regions.{AreNormalisedLocations, regions_of}
use Rattle.delta_solve.specs.Deltas.{rows_of}
use Rattle.delta_solve.specs.GlyphModels.{AreAlike, IsTupleWithin}
use Rattle.delta_solve.specs.declared.model.GlyphModel.{GlyphModel}
use Rattle.font_project.specs.Columns.{column}
use Rattle.font_project.specs.declared.masters.Masters.{Masters}

abbrev pub locations : Masters → List (List ℤ)
locations masters = coordinates_of masters.sorted

abbrev pub regions : Masters → List (List Triple)
regions masters = regions_of (locations masters)

-- 1 to 128 masters in their order, with the regions that are theirs and the table of their scalars
pub record AreReady (masters : Masters) : Type 0 where
  pub in_order : AreMasters (axes_of (locations masters)) (locations masters)
  pub normalised : AreNormalisedLocations (locations masters)
  pub few : length masters.sorted ≤ 128
  pub regions_are : regions_in masters.supports ≡ regions masters
  pub scalars : masters.table ≡ rows_of (regions masters) (locations masters)
  pub one_each : length masters.table ≡ length masters.sorted

-- of so many masters the outlines of so many glyphs: those of one glyph are within limits, and have one shape
pub record AreFitRows (masters glyphs : ℕ) (rows : List (List Outline)) : Type 0 where
  pub one_each : length rows ≡ masters
  pub within : (glyph : ℕ) → glyph < glyphs → All IsWithinLimits (column rows glyph)
  pub alike : (glyph : ℕ) → glyph < glyphs → AreAlike (column rows glyph)

-- all deltas of the model fit 16 bits
abbrev pub AreTuplesWithin : GlyphModel → Type 0
AreTuplesWithin model = All IsTupleWithin model.tuples
