-- A project of sources within limits is one that a font can be built of.
use Rattle.std.proofs.Common.{◌≡◌, ℕ, ℤ, suc, ◌+◌, ◌*◌, ◌<◌, ◌≤◌, List, [], ◌∷◌, length, map, get_or, All, None, Ok, refl, sym, ◌∙◌, ap, subst, arith}
use Rattle.std.specs.Prelude.{sum_by}
use Rattle.std.specs.List.{AllZip}
use Rattle.std.proofs.lemmas.List.{ext_get_or, get_or-map, length-map}
use Rattle.std.proofs.lemmas.List.Elements.{All-weaker}
use Rattle.variation_rules.specs.PackedPoints.{count_from}
use Rattle.ufo_source.specs.Limits as sources
use Rattle.glif.specs.Limits.{AreDistinct, IsWithinLimits}
use Rattle.glif.specs.declared.shape.Outline.{Outline}
use Rattle.region_support.specs.MasterOrder.{AreMasters, axes_of}
use Rattle.region_support.specs.Sorting.{locations_at}
use Rattle.region_support.proofs.LocationLemmas.{number_below}
use Rattle.designspace.specs.Limits.{IsSourceOn}
use Rattle.designspace.specs.declared.source.Source.{Source}
use Rattle.delta_solve.specs.Deltas.{scalars_at, whole_rows}
use Rattle.delta_solve.specs.GlyphModels.{IsModelOf, default_of}
use Rattle.delta_solve.specs.declared.model.GlyphModel.{GlyphModel}
use Rattle.font_sources.specs.Document.{locations_of}
use Rattle.font_sources.specs.declared.found.FontSources.{FontSources}
use Rattle.font_model.specs.Fit.{AreGlyphCodes, AreGlyphNames, IsFit, IsFitModel, IsGlyphName, names_of, points_in}
use Rattle.font_model.specs.Fonts.{numbered}
use Rattle.font_model.specs.declared.parts.Project.{Project}
use Rattle.font_project.specs.Columns.{column, columns, no_outlines, nothing, rows_in}
use Rattle.font_project.specs.Fonts.{default_number, default_outlined, master_locations}
use Rattle.font_project.specs.Limits.{AreAlikeWithin, IsFrameWithin}
use Rattle.font_project.specs.Making.{IsJoinedOf}
use Rattle.font_project.specs.Ruled.{AreRuled}
use Rattle.font_project.specs.declared.ruled.Ruled.{Ruled}
use Rattle.font_rules.specs.RuleNumbers.{AreAllNumbered}
use Rattle.font_project.specs.Masters.{AreFitRows, AreReady, AreTuplesWithin, locations, regions}
use Rattle.font_project.specs.Numbers.{default_first}
use Rattle.font_project.specs.Sizes.{are_few, outline_size}
use Rattle.font_project.specs.declared.masters.Masters.{Masters}
use Rattle.font_project.specs.declared.outlined.OutlinedSource.{OutlinedSource}
use Rattle.font_project.proofs.FitModels.{fit_model}
use Rattle.font_project.proofs.OutlinedSources.{zip_at, zip_length}
use Rattle.font_project.proofs.Passing.{below_length, item_at}
use Rattle.font_project.proofs.Rows.{count_length, counted, default_in_column, fit_rows, row_at, row_within, some_order}
use Rattle.font_project.proofs.Sizing.{models_size}

-- ---- the names

names_back : (names : List (List ℕ)) (number : ℕ) → names_of (numbered number names) ≡ names
names_back [] number = refl
names_back (name ∷ names) number = ap (λ (rest : List (List ℕ)). name ∷ rest) (names_back names (number + 1))

pub numbered_length : (names : List (List ℕ)) (number : ℕ) → length (numbered number names) ≡ length names
numbered_length [] number = refl
numbered_length (name ∷ names) number = ap suc (numbered_length names (number + 1))

fit_names : (found : FontSources) (entries : List (List ℕ × ℕ)) → IsFrameWithin found → entries ≡ numbered 0 found.names → AreGlyphNames entries
fit_names found entries frame is =
    let some : 0 < length found.names = below_length found.names 0 _ frame.names.first in
    subst AreGlyphNames (sym is) (record {
      numbers = ap (numbered 0) (sym (names_back found.names 0));
      once = subst AreDistinct (sym (names_back found.names 0)) frame.names.once;
      some = omega (arith, numbered_length found.names 0, some);
      few = omega (arith, numbered_length found.names 0, frame.names.few);
      each = subst (All IsGlyphName) (sym (names_back found.names 0))
          (All-weaker sources.IsGlyphName IsGlyphName (λ name within. record { least = within.least; greatest = within.greatest }) found.names frame.names.each);
    })

-- ---- the masters

axes_at : (axes : ℕ) (sources : List Source) (order : List ℕ) → All (λ number. number < length sources) order → 0 < length order → All (IsSourceOn axes) sources → axes_of (locations_at (locations_of sources) order) ≡ axes
axes_at axes sources [] below some on = absurd (omega arith)
axes_at axes sources (number ∷ order) below some on =
    let less : number < length sources = below 0 0 (omega arith) in
    let none : Source = record { path = []; layer = None; location = record { items = [] } } in
    ap length (get_or-map (λ (source : Source). source.location.items) sources number none [] less) ∙ (on number none less).coordinates

master_axes : (found : FontSources) → IsFrameWithin found → axes_of (master_locations found) ≡ length found.design.axes
master_axes found frame =
    let listed = locations_of found.design.sources in
    let count : length listed ≡ length found.design.sources = length-map found.design.sources (λ (source : Source). source.location.items) in
    axes_at (length found.design.axes) found.design.sources found.order (λ k d below. omega (arith, number_below listed found.order frame.order k d below, count)) (some_order listed found.order frame.order) frame.design.sources

-- ---- the models

column_or : (rows : List (List Outline)) (count k : ℕ) (d : List Outline) → k < count → get_or (columns rows count) k d ≡ column rows k
column_or rows count k d below =
    let inside : k < length (count_from count 0) = omega (arith, count_length count 0, below) in
    let number : 0 + k ≡ k = omega arith in
    get_or-map (column rows) (count_from count 0) k 0 d inside ∙ (ap (column rows) (counted count 0 k 0 below) ∙ ap (column rows) number)

column_at : (rows : List (List Outline)) (count k : ℕ) → k < count → get_or (columns rows count) k [] ≡ column rows k
column_at rows count k below = column_or rows count k [] below

columns_length : (rows : List (List Outline)) (count : ℕ) → length (columns rows count) ≡ count
columns_length rows count = length-map (count_from count 0) (column rows) ∙ count_length count 0

-- the outlines of all glyphs are within limits
pub columns_within : (rows : List (List Outline)) (count : ℕ) → ((glyph : ℕ) → glyph < count → All IsWithinLimits (column rows glyph)) → All (All IsWithinLimits) (columns rows count)
columns_within rows count within k d below =
    let less : k < count = omega (arith, below, columns_length rows count) in
    subst (All IsWithinLimits) (sym (column_or rows count k d less)) (within k less)

-- the default's outlines are the first of the columns
default_columns : (outlined : List OutlinedSource) (order : List ℕ) (count : ℕ) → 0 < length order → length (row_at outlined (get_or order 0 0)) ≡ count
    → map default_of (columns (rows_in outlined order) count) ≡ row_at outlined (get_or order 0 0)
default_columns outlined order count some size =
    let rows = rows_in outlined order in
    ext_get_or nothing (map default_of (columns rows count)) (row_at outlined (get_or order 0 0)) (length-map (columns rows count) default_of ∙ (columns_length rows count ∙ sym size))
    (λ k below.
    let inside : k < count = omega (arith, below, length-map (columns rows count) default_of, columns_length rows count) in
    let there : k < length (columns rows count) = omega (arith, inside, columns_length rows count) in
    get_or-map default_of (columns rows count) k [] nothing there ∙ (ap default_of (column_at rows count k inside) ∙ default_in_column outlined order k some))

-- ---- the project

-- the masters' rows fit
fit_all : (found : FontSources) (outlined : List OutlinedSource) → IsFrameWithin found → AreAlikeWithin (length found.names) (length found.design.sources) (default_number found) outlined
    → AreFitRows (length found.design.sources) (length found.names) (rows_in outlined found.order)
fit_all found outlined frame within =
    let listed : length (locations_of found.design.sources) ≡ length found.design.sources = length-map found.design.sources (λ (source : Source). source.location.items) in
    subst (λ (n : ℕ). AreFitRows n (length found.names) (rows_in outlined found.order)) listed
    (fit_rows found.names (locations_of found.design.sources) found.order outlined frame.order (subst (λ (n : ℕ). AreAlikeWithin (length found.names) n (default_number found) outlined) (sym listed) within))

-- so do the models
fit_models : (found : FontSources) (outlined : List OutlinedSource) (masters : Masters) (models : List GlyphModel) → AreFitRows (length masters.sorted) (length found.names) (rows_in outlined found.order) → AreReady masters
    → 0 < length masters.sorted → AllZip (IsModelOf (regions masters) (locations masters)) (columns (rows_in outlined found.order) (length found.names)) models → All AreTuplesWithin models → All (IsFitModel (length masters.sorted)) models
fit_models found outlined masters models fit ready some are tuples = λ k d below.
    let rows = rows_in outlined found.order in
    let inside : k < length found.names = omega (arith, below, zip_length (IsModelOf (regions masters) (locations masters)) (columns rows (length found.names)) models are, columns_length rows (length found.names)) in
    let scalars = whole_rows (regions masters) (locations masters) in
    let more : 0 < length scalars = omega (arith, some, length-map (locations masters) (scalars_at (regions masters)), length-map masters.sorted (λ at. at.items)) in
    let model : IsModelOf (regions masters) (locations masters) (column rows k) (get_or models k d) =
    subst (λ (outlines : List Outline). IsModelOf (regions masters) (locations masters) outlines (get_or models k d)) (column_at rows (length found.names) k inside)
    (zip_at (IsModelOf (regions masters) (locations masters)) (columns rows (length found.names)) models are k [] d below) in
    fit_model scalars more (length masters.sorted) (column rows k) (get_or models k d) model (tuples k d below) (fit.within k inside) (length-map rows (λ row. get_or row k nothing) ∙ fit.one_each) some ready.few

-- and their points are few
few_points : (found : FontSources) (outlined : List OutlinedSource) (masters : Masters) (models : List GlyphModel) → IsFrameWithin found → AreAlikeWithin (length found.names) (length found.design.sources) (default_number found) outlined
    → AreFitRows (length found.design.sources) (length found.names) (rows_in outlined found.order) → AllZip (IsModelOf (regions masters) (locations masters)) (columns (rows_in outlined found.order) (length found.names)) models
    → sum_by points_in models ≤ 16777216
few_points found outlined masters models frame within fit are =
    let rows = rows_in outlined found.order in
    let default = default_number found in
    let own = row_at outlined default in
    let some = some_order (locations_of found.design.sources) found.order frame.order in
    let here = row_within found.names (length found.design.sources) default default outlined within within.there in
    let counts : All (λ column. length column ≡ length found.design.sources) (columns rows (length found.names)) = λ k d below.
    let inside : k < length (count_from (length found.names) 0) = omega (arith, below, length-map (count_from (length found.names) 0) (column rows)) in
    ap length (get_or-map (column rows) (count_from (length found.names) 0) k 0 d inside) ∙ (length-map rows (λ row. get_or row (get_or (count_from (length found.names) 0) k 0) nothing) ∙ fit.one_each) in
    let sum : sum_by points_in models ≡ length found.design.sources * sum_by outline_size own =
    models_size (regions masters) (locations masters) (length found.design.sources) (columns rows (length found.names)) models counts are
    ∙ ap (λ (list : List Outline). length found.design.sources * sum_by outline_size list) (default_columns outlined found.order (length found.names) some here.one_each) in
    omega (arith, sum, within.few)

pub is_fit : (found : FontSources) (ruled : Ruled) (codes : List (ℕ × ℕ)) (outlined : List OutlinedSource) (masters : Masters) (models : List GlyphModel) (project : Project) → IsFrameWithin found → AreGlyphCodes (length found.names) codes
    → AreAlikeWithin (length found.names) (length found.design.sources) (default_number found) outlined → IsJoinedOf found ruled codes masters models project → AreRuled found ruled → AreReady masters → locations masters ≡ master_locations found
    → length masters.sorted ≡ length found.design.sources → AllZip (IsModelOf (regions masters) (locations masters)) (columns (rows_in outlined found.order) (length found.names)) models → All AreTuplesWithin models → IsFit project
is_fit found ruled codes outlined masters models project frame characters within joined right ready same one_each are tuples =
    let rows = fit_all found outlined frame within in
    let named : project.names.entries ≡ numbered 0 found.names = ap (λ (names : _). names.entries) joined.names ∙ right.names in
    let entries : length project.names.entries ≡ length found.names = ap length named ∙ numbered_length found.names 0 in
    let axes : axes_of (locations masters) ≡ length found.design.axes = ap axes_of same ∙ master_axes found frame in
    let plain : Project = record { design = found.design; info = found.info; names = project.names; codes = codes; supports = masters.supports; sorted = masters.sorted; models = models; subs = ruled.substitutions.subs; cells = ruled.substitutions.cells } in
    let is : project ≡ plain = λ i. record { design = joined.design i; info = joined.info i; names = project.names; codes = joined.codes_are i; supports = joined.supports i; sorted = joined.sorted i; models = joined.models_are i; subs = joined.subs i; cells = joined.cells i } in
    let fit : IsFit plain = record {
      design = frame.design;
      numbers = frame.info.numbers;
      texts = frame.info.texts;
      names = fit_names found project.names.entries frame named;
      codes = subst (λ (n : ℕ). AreGlyphCodes n codes) (sym entries) characters;
      masters = record {
        masters = subst (λ (n : ℕ). AreMasters n (locations masters)) axes ready.in_order;
        normalised = ready.normalised;
        one_each = one_each;
        regions = ready.regions_are;
      };
      model_each = zip_length (IsModelOf (regions masters) (locations masters)) (columns (rows_in outlined found.order) (length found.names)) models are ∙ (columns_length (rows_in outlined found.order) (length found.names) ∙ sym entries);
      models = fit_models found outlined masters models (subst (λ (n : ℕ). AreFitRows n (length found.names) (rows_in outlined found.order)) (sym one_each) rows) ready (omega (arith, one_each, within.there)) are tuples;
      small = few_points found outlined masters models frame within rows are;
      subs = subst (λ (entries : List (List ℕ × ℕ)). AreAllNumbered entries found.design.rules ruled.substitutions.subs) (sym named) right.subs;
      cells = right.cells;
    } in
    subst IsFit (sym is) fit
