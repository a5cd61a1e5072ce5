-- What holds of the sources behind each step, whatever they are.
use Rattle.std.specs.Prelude.{◌≡◌, ℕ, ◌*◌, ◌<◌, ◌≤◌, List, length, sum_by, slice_index_or, All, Ok}
use Rattle.compat.specs.Flattened.{AreFit}
use Rattle.glif.specs.Shapes.{contour_kinds}
use Rattle.glif.specs.declared.shape.Outline.{Outline}
use Rattle.region_support.specs.Sorting.{IsOrder}
use Rattle.designspace.specs.Limits as documents
use Rattle.font_sources.specs.Document.{locations_of}
use Rattle.font_sources.specs.Limits.{AreGlyphNames, IsInfoWithin}
use Rattle.font_sources.specs.declared.found.FontSources.{FontSources}
use Rattle.font_project.specs.Codes.{HasCodePoints}
use Rattle.font_project.specs.Columns.{no_outlines, nothing}
use Rattle.font_project.specs.Outlining.{AreOutlinesWithin}
use Rattle.font_project.specs.Numbers.{default_first}
use Rattle.font_project.specs.Shapes.{have_shapes}
use Rattle.font_project.specs.Sizes.{are_few, outline_size}
use Rattle.font_project.specs.Fonts.{default_outlined}
use Rattle.font_project.specs.declared.drawn.DrawnSource.{DrawnSource}
use Rattle.font_project.specs.declared.outlined.OutlinedSource.{OutlinedSource}

-- what is told of the font beside its glyphs
pub record IsFrameWithin (found : FontSources) : Type 0 where
  pub design : documents.IsWithinLimits found.design
  pub order : IsOrder (locations_of found.design.sources) found.order
  pub info : IsInfoWithin found.info
  pub names : AreGlyphNames found.names

-- drawings of so many glyphs that can be flattened, with code points
pub record IsDrawnWithin (glyphs : ℕ) (source : DrawnSource) : Type 0 where
  pub one_each : length source.drawings ≡ glyphs
  pub fit : AreFit source.drawings
  pub points : All HasCodePoints source.drawings

-- so many sources, of which the default's is one
pub record AreDrawnWithin (glyphs sources default : ℕ) (drawn : List DrawnSource) : Type 0 where
  pub one_each : length drawn ≡ sources
  pub there : default < sources
  pub each : All (IsDrawnWithin glyphs) drawn

-- outlines of so many glyphs
pub record IsOutlinedWithin (glyphs : ℕ) (source : OutlinedSource) : Type 0 where
  pub one_each : length source.outlines ≡ glyphs
  pub within : AreOutlinesWithin source

-- the outline of a glyph in the source of this number
abbrev pub outline_at : List OutlinedSource → ℕ → ℕ → Outline
outline_at outlined number glyph = slice_index_or (slice_index_or outlined number no_outlines).outlines glyph nothing

-- sources whose outlines have the shapes of the default's, and are few enough
pub record AreOutlinedWithin (names : List (List ℕ)) (sources default : ℕ) (outlined : List OutlinedSource) : Type 0 where
  pub one_each : length outlined ≡ sources
  pub there : default < sources
  pub each : All (IsOutlinedWithin (length names)) outlined
  pub shapes : have_shapes names (default_outlined outlined default) outlined ≡ Ok tt
  pub few : are_few outlined (default_first default sources) ≡ Ok tt

-- sources whose outlines of each glyph have points of the same kinds, and are few enough
pub record AreAlikeWithin (glyphs sources default : ℕ) (outlined : List OutlinedSource) : Type 0 where
  pub one_each : length outlined ≡ sources
  pub there : default < sources
  pub each : All (IsOutlinedWithin glyphs) outlined
  pub alike : (number glyph : ℕ) → number < sources → glyph < glyphs → contour_kinds (outline_at outlined number glyph) ≡ contour_kinds (outline_at outlined default glyph)
  pub few : sources * sum_by outline_size (slice_index_or outlined default no_outlines).outlines ≤ 16777216
