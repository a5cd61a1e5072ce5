-- What holds of all that a font is built from, whatever the sources are.
use Rattle.std.specs.Prelude.{◌≡◌, ℕ, ◌≤◌, List, length, map, All, Option, Some, IsSome, IsSomeAnd, slice_get, slice_index_or}
use Rattle.fontinfo.specs.FontInfo.{AreNumbersWithin, AreTextsWithin}
use Rattle.fontinfo.specs.declared.info.Info.{Info}
use Rattle.glif.specs.Limits.{AreDistinct}
use Rattle.glif.specs.declared.shape.Drawing.{Drawing}
use Rattle.ufo_source.specs.Limits.{AreNamed, IsGlyphName, IsGlyphWithin, all_codes}
use Rattle.region_support.specs.Sorting.{IsOrder}
use Rattle.designspace.specs.Limits.{IsWithinLimits}
use Rattle.designspace.specs.declared.source.Source.{Source}
use Rattle.font_sources.specs.Document.{locations_of}
use Rattle.font_sources.specs.GlyphOrder.{glyph_order, notdef, with_made}
use Rattle.font_sources.specs.declared.default_source.DefaultSource.{DefaultSource}
use Rattle.font_sources.specs.declared.family.Family.{Family}
use Rattle.font_sources.specs.declared.found.FontSources.{FontSources}
use Rattle.font_sources.specs.declared.found.SourceGlyphs.{SourceGlyphs}

-- ---- the glyphs

-- the names of the glyphs of a font: few, each once, `.notdef` first
pub record AreGlyphNames (names : List (List ℕ)) : Type 0 where
  pub each : All IsGlyphName names
  pub few : length names ≤ 32510
  pub once : AreDistinct names
  pub first : slice_get names 0 ≡ Some notdef

-- a source has a glyph or none for each name, with that name, within limits
pub record AreGlyphsOf (names : List (List ℕ)) (glyphs : List (Option Drawing)) : Type 0 where
  pub named : AreNamed names glyphs
  pub within : All IsGlyphWithin glyphs

-- every glyph is there, and no code point stands twice in all of them
pub record AreWhole (glyphs : List (Option Drawing)) : Type 0 where
  pub there : All IsSome glyphs
  pub codes_once : AreDistinct (all_codes glyphs)

-- the font information
pub record IsInfoWithin (info : Info) : Type 0 where
  pub numbers : AreNumbersWithin info
  pub texts : AreTextsWithin info

-- ---- all sources

abbrev pub IsSourceWithin : List (List ℕ) → SourceGlyphs → Type 0
IsSourceWithin names source = AreGlyphsOf names source.glyphs

abbrev pub IsWholeSource : SourceGlyphs → Type 0
IsWholeSource source = AreWhole source.glyphs

-- the folders of sources as they were read, and as the document tells them
abbrev pub folders_of : List SourceGlyphs → List (List ℕ)
folders_of sources = map (λ source. source.folder) sources

abbrev pub paths_of : List Source → List (List ℕ)
paths_of sources = map (λ source. source.path) sources

-- The sources are those of the document, in its order, of which the default's has the first number of the order of masters
-- and is whole.
pub record AreWithin (found : FontSources) : Type 0 where
  pub design : IsWithinLimits found.design
  pub order : IsOrder (locations_of found.design.sources) found.order
  pub info : IsInfoWithin found.info
  pub names : AreGlyphNames found.names
  pub folders : folders_of found.sources ≡ paths_of found.design.sources
  pub sources : All (IsSourceWithin found.names) found.sources
  pub default : IsSomeAnd (slice_get found.sources (slice_index_or found.order 0 0)) IsWholeSource

-- ---- on the way there

-- the default source with its made `.notdef`
pub record IsDefaultWithin (default : DefaultSource) : Type 0 where
  pub info : IsInfoWithin default.info
  pub names : AreGlyphNames (glyph_order default.makes default.names)
  pub glyphs : AreGlyphsOf (glyph_order default.makes default.names) (with_made default.makes default.info.units default.glyphs)
  pub whole : AreWhole (with_made default.makes default.info.units default.glyphs)

-- the sources of these folders, of which that of this number is the default's
pub record IsFamilyOf (paths : List (List ℕ)) (number : ℕ) (family : Family) : Type 0 where
  pub info : IsInfoWithin family.info
  pub names : AreGlyphNames family.names
  pub folders : folders_of family.sources ≡ paths
  pub sources : All (IsSourceWithin family.names) family.sources
  pub default : IsSomeAnd (slice_get family.sources number) IsWholeSource
