-- Everything that a font is built from, off the files that the designspace document of this path leads to, or the first
-- fault in the order of reading: the document, the locations of its sources, the default source, and the others in the
-- document's order.
use Rattle.std.specs.Prelude.{ℕ, ◌+◌, ℤ, Bool, List, [], ◌∷◌, ◌++◌, take, drop, Option, Some, None, Result, Ok, slice_index_or}
use Rattle.outside.specs.Files.{Files}
use Rattle.basics.specs.Reading.{◌>>=◌, each}
use Rattle.basics.specs.declared.fault.Fault.{Fault}
use Rattle.glif.specs.declared.shape.Drawing.{Drawing}
use Rattle.designspace.specs.declared.source.Source.{Source}
use Rattle.ufo_source.specs.Folders.{master_at}
use Rattle.ufo_source.specs.declared.folder.Master.{Master}
use Rattle.font_sources.specs.Document.{document_at, master_order}
use Rattle.font_sources.specs.GlyphOrder.{glyph_order, glyphs_named, makes_notdef, names_in_order, with_made}
use Rattle.font_sources.specs.declared.default_source.DefaultSource.{DefaultSource}
use Rattle.font_sources.specs.declared.family.Family.{Family}
use Rattle.font_sources.specs.declared.found.FontSources.{FontSources}
use Rattle.font_sources.specs.declared.found.SourceGlyphs.{SourceGlyphs}

-- ---- the default source, all of whose glyphs are read

-- its names and glyphs in glyph order, and whether a `.notdef` is made
abbrev pub default_of : Master → DefaultSource
default_of master = record {
  info = master.info;
  makes = makes_notdef master.names;
  names = names_in_order master.order master.names;
  glyphs = glyphs_named master.names master.glyphs (names_in_order master.order master.names);
}

unfoldable pub default_at : Files → Source → Result DefaultSource Fault
default_at files source = master_at files source.path source.layer None >>= λ master. Ok (default_of master)

-- ---- another source, of which the default source's glyphs alone are read

-- What is known of a source: its folder, its units of the em, and its glyphs with the made `.notdef`. The first are
-- whether one is made, and the default source's units.
abbrev pub source_glyphs : Bool → ℤ → List ℕ → ℤ → List (Option Drawing) → SourceGlyphs
source_glyphs makes em folder units glyphs = record { folder = folder; units = units; glyphs = with_made makes em glyphs }

abbrev pub source_of : DefaultSource → Source → Master → SourceGlyphs
source_of default source master = source_glyphs default.makes default.info.units source.path master.info.units master.glyphs

unfoldable pub source_at : Files → DefaultSource → Source → Result SourceGlyphs Fault
source_at files default source = master_at files source.path source.layer (Some default.names) >>= λ master. Ok (source_of default source master)

-- ---- all sources

abbrev pub sources_among : Files → DefaultSource → List Source → Result (List SourceGlyphs) Fault
sources_among files default sources = each (source_at files default) sources

-- put together in the document's order
abbrev pub joined : DefaultSource → List ℕ → List SourceGlyphs → List SourceGlyphs → Family
joined default folder earlier later = record {
  info = default.info;
  names = glyph_order default.makes default.names;
  sources = earlier ++ (source_glyphs default.makes default.info.units folder default.info.units default.glyphs ∷ later);
}

-- the default source is read first, then those that stand before it and those that stand after it
unfoldable pub family_at : Files → List Source → Source → List Source → Result Family Fault
family_at files before source after = do
  default ← default_at files source
  earlier ← sources_among files default before
  later ← sources_among files default after
  Ok (joined default source.path earlier later)

-- a source of no font
abbrev pub no_source : Source
no_source = record { path = []; layer = None; location = record { items = [] } }

-- the sources, of which the one of this number is the default's
abbrev pub family_of : Files → List Source → ℕ → Result Family Fault
family_of files sources number = family_at files (take number sources) (slice_index_or sources number no_source) (drop (number + 1) sources)

unfoldable pub sources_at : Files → List ℕ → Result FontSources Fault
sources_at files path = do
  design ← document_at files path
  order ← master_order path design.sources
  family ← family_of files design.sources (slice_index_or order 0 0)
  Ok (record { design = design; order = order; info = family.info; names = family.names; sources = family.sources })
