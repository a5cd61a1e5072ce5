-- Whether every source draws every glyph, and what each source draws then.
use Rattle.std.specs.Prelude.{ℕ, pos, List, [], ◌∷◌, map, Option, Some, None, Result, Ok, Err, slice_get}
use Rattle.basics.specs.Reading.{all_pass, spot_of}
use Rattle.basics.specs.declared.kinds.Kind.TheVariants.{GlyphMissing}
use Rattle.basics.specs.declared.fault.Fault.{Fault}
use Rattle.glif.specs.declared.shape.Drawing.{Drawing}
use Rattle.font_sources.specs.declared.found.SourceGlyphs.{SourceGlyphs}
use Rattle.font_project.specs.declared.drawn.DrawnSource.{DrawnSource}

-- ---- whether it does

-- a source, of this folder, without the glyph of this name
abbrev pub missing_fault : List ℕ → List ℕ → Fault
missing_fault folder name = record { path = folder; spot = spot_of GlyphMissing name 0 (pos 0) }

abbrev pub there_or : List ℕ → List ℕ → Option (Option Drawing) → Result (Unit {0}) Fault
there_or folder name (Some None) = Err (missing_fault folder name)
there_or folder name _ = Ok tt

abbrev pub is_there : ℕ → List ℕ → ℕ → SourceGlyphs → Result (Unit {0}) Fault
is_there glyph name _ source = there_or source.folder name (slice_get source.glyphs glyph)

unfoldable pub is_in_each : List SourceGlyphs → ℕ → List ℕ → Result (Unit {0}) Fault
is_in_each sources glyph name = all_pass (is_there glyph name) 0 sources

-- all sources have the glyphs of these names, or the first glyph that one of them lacks, with the first that lacks it
abbrev pub are_there : List SourceGlyphs → List (List ℕ) → Result (Unit {0}) Fault
are_there sources names = all_pass (is_in_each sources) 0 names

-- ---- what it draws

-- the drawings that are there
abbrev pub drawings_in : List (Option Drawing) → List Drawing
drawings_in [] = []
drawings_in (None ∷ glyphs) = drawings_in glyphs
drawings_in (Some drawing ∷ glyphs) = drawing ∷ drawings_in glyphs

abbrev pub drawn_source : SourceGlyphs → DrawnSource
drawn_source source = record { folder = source.folder; drawings = drawings_in source.glyphs }

abbrev pub drawn_sources : List SourceGlyphs → List DrawnSource
drawn_sources sources = map drawn_source sources
