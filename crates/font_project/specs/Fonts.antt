-- The font that a designspace document describes, or the first fault of it and its sources.
--
-- Each step is a function of what the steps before it gave, but for one: flattening is a relation of what was drawn and
-- what it gives. So the whole is a relation too, with one answer (`OneAnswer`).
use Rattle.std.specs.Prelude.{◌≡◌, ℕ, ℤ, List, [], length, Result, Ok, Err, slice_index_or}
use Rattle.outside.specs.Files.{Files}
use Rattle.basics.specs.Reading.{◌>>=◌}
use Rattle.basics.specs.declared.fault.Fault.{Fault}
use Rattle.variation_rules.specs.declared.region.Triple.{Triple}
use Rattle.region_support.specs.Sorting.{locations_at}
use Rattle.region_support.specs.Regions.{regions_of}
use Rattle.font_sources.specs.Document.{locations_of}
use Rattle.font_sources.specs.Sources.{sources_at}
use Rattle.font_sources.specs.declared.found.FontSources.{FontSources}
use Rattle.font_model.specs.Fonts.{Font}
use Rattle.font_project.specs.Units.{have_units}
use Rattle.font_project.specs.Presence.{are_there, drawn_sources}
use Rattle.font_project.specs.Flats.{AreFlatSources}
use Rattle.font_project.specs.Numbers.{default_first}
use Rattle.font_project.specs.Resolving.{are_resolved}
use Rattle.font_project.specs.Components.{have_bases}
use Rattle.font_project.specs.Outlining.{are_flat, outlined_sources}
use Rattle.font_project.specs.Shapes.{have_shapes}
use Rattle.font_project.specs.Sizes.{are_few}
use Rattle.font_project.specs.Filtering.{Image, filtered}
use Rattle.font_project.specs.Ruled.{rules_of}
use Rattle.font_project.specs.Codes.{codes_of}
use Rattle.font_project.specs.Columns.{no_outlines, rows_in, columns}
use Rattle.font_project.specs.Deltas.{all_fit}
use Rattle.font_project.specs.declared.drawn.DrawnSource.{DrawnSource}
use Rattle.font_project.specs.declared.flat.FlatSource.{FlatSource}
use Rattle.font_project.specs.declared.outlined.OutlinedSource.{OutlinedSource}

-- ---- what is drawn

-- what each source draws: all have the default's units, and draw all glyphs
unfoldable pub drawn_of : FontSources → Result (List DrawnSource) Fault
drawn_of found =
    have_units found.info.units found.sources >>= λ _.
    are_there found.sources found.names >>= λ _.
    Ok (drawn_sources found.sources)

-- ---- the outlines

-- those of the default source, which has this number
abbrev pub default_drawn : List DrawnSource → ℕ → DrawnSource
default_drawn drawn default = slice_index_or drawn default (record { folder = []; drawings = [] })

abbrev pub default_outlined : List OutlinedSource → ℕ → OutlinedSource
default_outlined outlined default = slice_index_or outlined default no_outlines

-- the outlines of each source, which fit the default's, off what flattening gave
unfoldable pub outlined_of : List (List ℕ) → ℕ → List DrawnSource → List FlatSource → Result (List OutlinedSource) Fault
outlined_of names default drawn flats =
    are_resolved flats (default_first default (length drawn)) >>= λ _.
    have_bases names (default_drawn drawn default) drawn >>= λ _.
    are_flat flats (default_first default (length drawn)) >>= λ _.
    have_shapes names (default_outlined (outlined_sources flats) default) (outlined_sources flats) >>= λ _.
    are_few (outlined_sources flats) (default_first default (length drawn)) >>= λ _.
    Ok (outlined_sources flats)

-- this is what the sources' drawings come to
abbrev pub AreOutlined : List (List ℕ) → ℕ → List DrawnSource → Result (List OutlinedSource) Fault → Type 0
AreOutlined names default drawn answer = (flats : List FlatSource) × AreFlatSources drawn flats × (answer ≡ outlined_of names default drawn flats)

-- ---- the font

-- where the masters stand, in their order
abbrev pub master_locations : FontSources → List (List ℤ)
master_locations found = locations_at (locations_of found.design.sources) found.order

abbrev pub master_regions : FontSources → List (List Triple)
master_regions found = regions_of (master_locations found)

abbrev pub default_number : FontSources → ℕ
default_number found = slice_index_or found.order 0 0

-- the font of these code points and outlines, whose rules can be built and whose deltas fit; path is that of the document
unfoldable pub font_of : List ℕ → FontSources → List (ℕ × ℕ) → List OutlinedSource → Result Font Fault
font_of path found codes outlined =
    rules_of path found >>= λ _.
    all_fit (master_regions found) (master_locations found) (rows_in outlined found.order) found.names >>= λ _.
    Ok (record {
      design = found.design;
      info = found.info;
      names = found.names;
      codes = codes;
      locations = master_locations found;
      glyphs = columns (rows_in outlined found.order) (length found.names);
    })

-- ---- the whole

-- the code points that the default source tells
abbrev pub default_codes : FontSources → List DrawnSource → List (ℕ × ℕ)
default_codes found drawn = codes_of (default_drawn drawn (default_number found)).drawings

-- the font of these code points and of what becomes of the outlines under filters in order
abbrev pub font_filtered : List ℕ → List Image → FontSources → List (ℕ × ℕ) → List OutlinedSource → Result Font Fault
font_filtered path images found codes outlined = filtered images found.names (default_number found) outlined >>= font_of path found codes

abbrev pub IsFontOfDrawn : List ℕ → List Image → FontSources → Result (List DrawnSource) Fault → Result Font Fault → Type 0
IsFontOfDrawn path images found (Err fault) answer = answer ≡ Err fault
IsFontOfDrawn path images found (Ok drawn) answer =
    (outlined : Result (List OutlinedSource) Fault) × AreOutlined found.names (default_number found) drawn outlined
    × (answer ≡ (outlined >>= font_filtered path images found (default_codes found drawn)))

abbrev pub IsFontOf : List ℕ → List Image → Result FontSources Fault → Result Font Fault → Type 0
IsFontOf path images (Err fault) answer = answer ≡ Err fault
IsFontOf path images (Ok found) answer = IsFontOfDrawn path images found (drawn_of found) answer

-- the font that the document of this path describes, whose outlines become these images one after another, or its first
-- fault
abbrev pub IsFontAt : Files → List ℕ → List Image → Result Font Fault → Type 0
IsFontAt files path images answer = IsFontOf path images (sources_at files path) answer

abbrev pub OneAnswer : Type 0
OneAnswer = (files : Files) (path : List ℕ) (images : List Image) (a b : Result Font Fault) → IsFontAt files path images a → IsFontAt files path images b → a ≡ b
