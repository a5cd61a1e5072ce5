-- What the last steps answer: the font, and its project.
use Rattle.std.proofs.Common.{◌≡◌, ℕ, ℤ, List, length, Result, Ok, Err, refl, sym, ◌∙◌, ap, subst}
use Rattle.std.specs.List.{AllZip}
use Rattle.basics.specs.Reading.{◌>>=◌}
use Rattle.basics.specs.declared.fault.Fault.{Fault}
use Rattle.source_files.specs.Stops.{StopsBy}
use Rattle.source_files.specs.declared.stop.ReadStop.{ReadStop}
use Rattle.source_files.specs.declared.stop.ReadStop.TheVariants.{NoMemory, ReadFault, Refused}
use Rattle.glif.specs.declared.shape.Outline.{Outline}
use Rattle.region_support.specs.Coordinates.{coordinates_of, regions_in}
use Rattle.region_support.specs.Regions.{regions_of}
use Rattle.delta_solve.specs.GlyphModels.{IsModelOf}
use Rattle.delta_solve.specs.declared.model.GlyphModel.{GlyphModel}
use Rattle.font_sources.specs.declared.found.FontSources.{FontSources}
use Rattle.rule_boxes.specs.Cells.{AreCells}
use Rattle.font_rules.specs.RuleNumbers.{AreAllNumbered, sets_of}
use Rattle.font_model.specs.Fonts.{Font, IsProjectOf, numbered}
use Rattle.font_model.specs.declared.parts.Project.{Project}
use Rattle.font_project.specs.Columns.{columns, rows_in}
use Rattle.font_project.specs.Deltas.{all_fit}
use Rattle.font_project.specs.Fonts.{AreOutlined, IsFontOf, IsFontOfDrawn, default_codes, default_number, drawn_of, font_filtered, font_of, master_locations, master_regions}
use Rattle.font_project.specs.Filtering.{Image, filtered}
use Rattle.font_project.specs.Making.{IsJoinedOf, MakesProject, StopsWith}
use Rattle.font_project.specs.Masters.{AreReady, locations, regions}
use Rattle.font_project.specs.Presence.{are_there, drawn_sources}
use Rattle.font_project.specs.Units.{have_units}
use Rattle.font_project.specs.Ruled.{AreRuled, rules_of}
use Rattle.font_project.specs.declared.drawn.DrawnSource.{DrawnSource}
use Rattle.font_project.specs.declared.masters.Masters.{Masters}
use Rattle.font_project.specs.declared.ruled.Ruled.{Ruled}
use Rattle.font_project.specs.declared.outlined.OutlinedSource.{OutlinedSource}

-- the fault of a reading is the right answer where the reading is
pub stops_right : {V : Type 0} (reading : Result V Fault) (stop : ReadStop) → StopsBy stop reading → StopsWith (λ answer. answer ≡ reading) stop
stops_right reading (Refused fault) stops = sym stops
stops_right reading (ReadFault path) stops = tt
stops_right reading NoMemory stops = tt

-- the font, where its deltas fit
abbrev pub font_with : FontSources → List (ℕ × ℕ) → List OutlinedSource → Font
font_with found codes outlined = record {
  design = found.design;
  info = found.info;
  names = found.names;
  codes = codes;
  locations = master_locations found;
  glyphs = columns (rows_in outlined found.order) (length found.names);
}

pub font_fits : (path : List ℕ) (found : FontSources) (codes : List (ℕ × ℕ)) (outlined : List OutlinedSource) (subs : List (List (ℕ × ℕ))) → rules_of path found ≡ Ok subs
    → all_fit (master_regions found) (master_locations found) (rows_in outlined found.order) found.names ≡ Ok tt → font_of path found codes outlined ≡ Ok (font_with found codes outlined)
unfolding font_of
font_fits path found codes outlined subs ruled fit =
    ap (λ (r : Result (List (List (ℕ × ℕ))) Fault). r >>= λ _. all_fit (master_regions found) (master_locations found) (rows_in outlined found.order) found.names >>= λ _. Ok (font_with found codes outlined)) ruled
    ∙ ap (λ (r : Result (Unit {0}) Fault). r >>= λ _. Ok (font_with found codes outlined)) fit

-- a delta that doesn't fit stops the whole
pub fit_stops : (path : List ℕ) (found : FontSources) (codes : List (ℕ × ℕ)) (outlined : List OutlinedSource) (subs : List (List (ℕ × ℕ))) (stop : ReadStop) → rules_of path found ≡ Ok subs
    → StopsBy stop (all_fit (master_regions found) (master_locations found) (rows_in outlined found.order) found.names) → StopsBy stop (font_of path found codes outlined)
unfolding font_of
fit_stops path found codes outlined subs (Refused fault) ruled stops =
    ap (λ (r : Result (List (List (ℕ × ℕ))) Fault). r >>= λ _. all_fit (master_regions found) (master_locations found) (rows_in outlined found.order) found.names >>= λ _. Ok (font_with found codes outlined)) ruled
    ∙ ap (λ (r : Result (Unit {0}) Fault). r >>= λ _. Ok (font_with found codes outlined)) stops
fit_stops path found codes outlined subs (ReadFault place) ruled stops = tt
fit_stops path found codes outlined subs NoMemory ruled stops = tt

-- the project of all parts is that of the font
pub is_project : (found : FontSources) (ruled : Ruled) (codes : List (ℕ × ℕ)) (outlined : List OutlinedSource) (masters : Masters) (models : List GlyphModel) (project : Project) → IsJoinedOf found ruled codes masters models project
    → AreRuled found ruled → AreReady masters → locations masters ≡ master_locations found
    → AllZip (IsModelOf (regions masters) (locations masters)) (columns (rows_in outlined found.order) (length found.names)) models → IsProjectOf (font_with found codes outlined) project
is_project found ruled codes outlined masters models project joined right ready same are = record {
  design = joined.design;
  info = joined.info;
  names = ap (λ (names : _). names.entries) joined.names ∙ right.names;
  codes = joined.codes_are;
  locations = ap coordinates_of joined.sorted ∙ same;
  regions = ap regions_in joined.supports ∙ (ready.regions_are ∙ ap regions_of same);
  models = subst (λ (list : List GlyphModel). AllZip (IsModelOf (master_regions found) (master_locations found)) (columns (rows_in outlined found.order) (length found.names)) list) (sym joined.models_are)
      (subst (λ (at : List (List ℤ)). AllZip (IsModelOf (regions_of at) at) (columns (rows_in outlined found.order) (length found.names)) models) same are);
  subs = subst (AreAllNumbered (numbered 0 found.names) found.design.rules) (sym joined.subs) right.subs;
  cells = subst (AreCells (length found.design.axes) (sets_of found.design.rules)) (sym joined.cells) right.cells;
}

-- what is made of outlines that are right is made of what was drawn
pub made_of_drawn : (path : List ℕ) (images : List Image) (found : FontSources) (drawn : List DrawnSource) (outlined : List OutlinedSource) (result : Result Project ReadStop) → AreOutlined found.names (default_number found) drawn (Ok outlined)
    → MakesProject (λ answer. answer ≡ font_filtered path images found (default_codes found drawn) outlined) result → MakesProject (IsFontOfDrawn path images found (Ok drawn)) result
made_of_drawn path images found drawn outlined (Ok project) are (font, is, makes, within) = (font, (Ok outlined, are, is), makes, within)
made_of_drawn path images found drawn outlined (Err (Refused fault)) are is = (Ok outlined, are, is)
made_of_drawn path images found drawn outlined (Err (ReadFault place)) are is = tt
made_of_drawn path images found drawn outlined (Err NoMemory) are is = tt

-- and a fault of the outlines is one of the font
pub outlines_stop : (path : List ℕ) (images : List Image) (found : FontSources) (drawn : List DrawnSource) (stop : ReadStop) → StopsWith (AreOutlined found.names (default_number found) drawn) stop → StopsWith (IsFontOfDrawn path images found (Ok drawn)) stop
outlines_stop path images found drawn (Refused fault) stops = (Err fault, stops, refl)
outlines_stop path images found drawn (ReadFault place) stops = tt
outlines_stop path images found drawn NoMemory stops = tt

-- a fault of what is drawn is one of the font
drawn_stops : (path : List ℕ) (images : List Image) (found : FontSources) (reading : Result (List DrawnSource) Fault) (stop : ReadStop) → StopsBy stop reading → StopsWith (IsFontOfDrawn path images found reading) stop
drawn_stops path images found reading (Refused fault) stops = subst (λ (r : Result (List DrawnSource) Fault). IsFontOfDrawn path images found r (Err fault)) (sym stops) refl
drawn_stops path images found reading (ReadFault place) stops = tt
drawn_stops path images found reading NoMemory stops = tt

pub units_stop : (path : List ℕ) (images : List Image) (found : FontSources) (stop : ReadStop) → StopsBy stop (have_units found.info.units found.sources) → StopsWith (IsFontOf path images (Ok found)) stop
unfolding drawn_of
units_stop path images found (Refused fault) stops =
    drawn_stops path images found (drawn_of found) (Refused fault) (ap (λ (r : Result (Unit {0}) Fault). r >>= λ _. are_there found.sources found.names >>= λ _. Ok (drawn_sources found.sources)) stops)
units_stop path images found (ReadFault place) stops = tt
units_stop path images found NoMemory stops = tt

drawn_after : (found : FontSources) → have_units found.info.units found.sources ≡ Ok tt → drawn_of found ≡ (are_there found.sources found.names >>= λ _. Ok (drawn_sources found.sources))
unfolding drawn_of
drawn_after found units = ap (λ (r : Result (Unit {0}) Fault). r >>= λ _. are_there found.sources found.names >>= λ _. Ok (drawn_sources found.sources)) units

pub there_stop : (path : List ℕ) (images : List Image) (found : FontSources) (stop : ReadStop) → have_units found.info.units found.sources ≡ Ok tt → StopsBy stop (are_there found.sources found.names) → StopsWith (IsFontOf path images (Ok found)) stop
there_stop path images found (Refused fault) units stops =
    drawn_stops path images found (drawn_of found) (Refused fault) (drawn_after found units ∙ ap (λ (r : Result (Unit {0}) Fault). r >>= λ _. Ok (drawn_sources found.sources)) stops)
there_stop path images found (ReadFault place) units stops = tt
there_stop path images found NoMemory units stops = tt

-- what is made of what is drawn is made of all that was read
pub made_of_all : (path : List ℕ) (images : List Image) (found : FontSources) (result : Result Project ReadStop) → have_units found.info.units found.sources ≡ Ok tt → are_there found.sources found.names ≡ Ok tt
    → MakesProject (IsFontOfDrawn path images found (Ok (drawn_sources found.sources))) result → MakesProject (IsFontOf path images (Ok found)) result
made_of_all path images found result units there makes =
    let drawn : drawn_of found ≡ Ok (drawn_sources found.sources) = drawn_after found units ∙ ap (λ (r : Result (Unit {0}) Fault). r >>= λ _. Ok (drawn_sources found.sources)) there in
    subst (λ (r : Result (List DrawnSource) Fault). MakesProject (IsFontOfDrawn path images found r) result) (sym drawn) makes

-- a test of what is seen in place of the masters and the rows is one of the font's
pub fit_seen : (P : Result (Unit {0}) Fault → Type 0) (masters : Masters) (found : FontSources) (seen rows : List (List Outline)) (names : List (List ℕ)) → locations masters ≡ master_locations found → seen ≡ rows → names ≡ found.names
    → P (all_fit (regions masters) (locations masters) seen names) → P (all_fit (master_regions found) (master_locations found) rows found.names)
fit_seen P masters found seen rows names at drawn named holds =
    subst (λ (list : List (List ℕ)). P (all_fit (master_regions found) (master_locations found) rows list)) named
    (subst (λ (list : List (List Outline)). P (all_fit (master_regions found) (master_locations found) list names)) drawn
    (subst (λ (list : List (List ℤ)). P (all_fit (regions_of list) list seen names)) at holds))

-- ---- the images

-- what is made of images that are right is made of the outlines
pub made_of_images : (path : List ℕ) (images : List Image) (found : FontSources) (codes : List (ℕ × ℕ)) (outlined made : List OutlinedSource) (result : Result Project ReadStop) → filtered images found.names (default_number found) outlined ≡ Ok made
    → MakesProject (λ answer. answer ≡ font_of path found codes made) result → MakesProject (λ answer. answer ≡ font_filtered path images found codes outlined) result
made_of_images path images found codes outlined made result is makes =
    subst (λ (font : Result Font Fault). MakesProject (λ answer. answer ≡ font) result) (sym (ap (λ (read : Result (List OutlinedSource) Fault). read >>= font_of path found codes) is)) makes

-- and an image out of limits is the font's fault
pub images_stop : (path : List ℕ) (images : List Image) (found : FontSources) (codes : List (ℕ × ℕ)) (outlined : List OutlinedSource) (stop : ReadStop) → StopsBy stop (filtered images found.names (default_number found) outlined)
    → StopsWith (λ answer. answer ≡ font_filtered path images found codes outlined) stop
images_stop path images found codes outlined (Refused fault) stops = sym (ap (λ (read : Result (List OutlinedSource) Fault). read >>= font_of path found codes) stops)
images_stop path images found codes outlined (ReadFault place) stops = tt
images_stop path images found codes outlined NoMemory stops = tt
