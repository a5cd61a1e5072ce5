-- What the file has of each glyph.
use Rattle.std.proofs.Common.{◌≡◌, ℕ, ℤ, pos, negsuc, zero, suc, ◌*◌, ◌≤◌, ◌+ℤ◌, ◌*ℤ◌, Bool, List, [], ◌∷◌, length, map, drop, Option, Some, refl, sym, ap, subst, ◌∙◌, arith}
use Rattle.std.proofs.lemmas.Int.{ints}
use Rattle.std.proofs.lemmas.List.{length-map}
use Rattle.std.proofs.lemmas.List.Elements.{All-get_or}
use Rattle.std.specs.Prelude.{◌≤ℤ◌, slice_get}
use Rattle.std.specs.Int.RustNames.{unsigned_abs}
use Rattle.basics.specs.Optional.{◌>>=◌}
use Rattle.delta_solve.specs.Deltas.{dot, model_value, scalars_at}
use Rattle.delta_solve.specs.GlyphModels.{delta_advance}
use Rattle.delta_solve.specs.Outlines.{advance_of}
use Rattle.delta_solve.specs.declared.model.GlyphModel.{GlyphModel}
use Rattle.delta_solve.specs.declared.model.GlyphTuple.{GlyphTuple}
use Rattle.font_build.proofs.DefaultLemmas.{default_is, value_over}
use Rattle.font_build.proofs.FileLemmas.{InFile, count_is, long_is, metric_count_is}
use Rattle.font_build.proofs.FitLemmas.{regions_are, support_count}
use Rattle.font_build.proofs.Laws.{drawing_law}
use Rattle.font_build.proofs.ListLemmas.{get_is, get_map, get_within, partner}
use Rattle.font_build.specs.Counts.{AreOf}
use Rattle.font_build.specs.FontReading.{advance_in, glyph_count_in, long_offsets_in, metric_count_in, metric_in, movement_in, outline_in, outlines_in}
use Rattle.font_build.specs.FontTags.{GLYF, HMTX, HVAR, LOCA}
use Rattle.font_build.specs.Glyphs.{HasGlyphs}
use Rattle.font_build.specs.TableSteps.{AreTablesOf, later_advances}
use Rattle.font_build.specs.declared.tables.Tables.{Tables}
use Rattle.font_model.specs.DefaultOutline.{default_advance, default_outline}
use Rattle.font_model.specs.Fit.{IsFit, IsFitModel}
use Rattle.font_model.specs.declared.parts.Project.{Project}
use Rattle.font_tables.specs.FontFacts.{facts_of}
use Rattle.font_tables.specs.Outlines.{lengths_of, outlines_of}
use Rattle.glif.specs.declared.shape.Outline.{Outline}
use Rattle.glif.specs.declared.shape.Point.{Point}
use Rattle.glyf_loca.specs.Bounds.{outline_bounds}
use Rattle.glyf_loca.specs.Layout.{contours_of}
use Rattle.glyf_loca.specs.Slices.{glyphs_in}
use Rattle.glyph_variations.specs.Variations.{AreVariations}
use Rattle.hvar.specs.Advances.{MeansAdvances, advance_movement, advances_in}
use Rattle.item_var_store.specs.DeltaSets.{weighted_sum}
use Rattle.plain_tables.specs.GlyphMeasures.{glyphs_from}
use Rattle.plain_tables.specs.HorizontalMetrics.{metric_of, metrics_in, metrics_of}
use Rattle.region_support.specs.Coordinates.{coordinates_of, regions_in}
use Rattle.region_support.specs.MasterOrder.{AreMasters}
use Rattle.region_support.specs.Regions.{FirstIsWhole, regions_of}
use Rattle.region_support.proofs.RegionLaw.{first_is_whole}
use Rattle.sfnt_write.specs.FontFile.{table_in}
use Rattle.variation_rules.specs.Scalar.{scalar_of}
use Rattle.variation_rules.specs.declared.region.Triple.{Triple}

-- ---- the outline

outlines_read : (file : List ℕ) (count : ℕ) (long : Bool) (loca glyf : List ℕ) (outlines : List (List (List Point))) → glyph_count_in file ≡ Some count → long_offsets_in file ≡ Some long → table_in file LOCA ≡ Some loca → table_in file GLYF ≡ Some glyf
    → glyphs_in long count loca glyf ≡ Some outlines → outlines_in file ≡ Some outlines
outlines_read file count long loca glyf outlines count_there long_there loca_there glyf_there read =
    ap (λ (n : Option ℕ). n >>= λ k. long_offsets_in file >>= λ l. table_in file LOCA >>= λ o. table_in file GLYF >>= λ g. glyphs_in l k o g) count_there
    ∙ ap (λ (n : Option Bool). n >>= λ l. table_in file LOCA >>= λ o. table_in file GLYF >>= λ g. glyphs_in l count o g) long_there
    ∙ ap (λ (n : Option (List ℕ)). n >>= λ o. table_in file GLYF >>= λ g. glyphs_in long count o g) loca_there
    ∙ ap (λ (n : Option (List ℕ)). n >>= λ g. glyphs_in long count loca g) glyf_there
    ∙ read

name_count : (project : Project) → IsFit project → length (facts_of project).names ≡ length project.models
name_count project fit = length-map project.names.entries (λ entry. entry.0) ∙ sym fit.model_each

pub outline_is : (project : Project) (tables : Tables) (file : List ℕ) (glyph : ℕ) (model : GlyphModel) → IsFit project → AreTablesOf project tables → InFile tables file → slice_get project.models glyph ≡ Some model
    → outline_in file glyph ≡ Some (default_outline model).contours
outline_is project tables file glyph model fit are own there =
    let facts = facts_of project in
    let count : glyph_count_in file ≡ Some (length project.models) = count_is tables file facts own are.fixed.maxp ∙ ap (λ n. Some n) (name_count project fit) in
    let all = outlines_read file (length project.models) facts.long tables.loca.items tables.glyf.items (contours_of (outlines_of project)) count (long_is tables file facts own are.fixed.head) own.loca own.glyf are.outlines in
    ap (λ (read : Option (List (List (List Point)))). read >>= λ outlines. slice_get outlines glyph) all
    ∙ get_map (λ (o : Outline). o.contours) (outlines_of project) glyph (default_outline model) (get_map default_outline project.models glyph model there)

-- ---- the advance

abbrev told : Outline → ℕ × ℤ
told o = metric_of (record { advance = advance_of o; bounds = outline_bounds o; points = (lengths_of o).0; contours = (lengths_of o).1 })

metric_told : (outlines : List Outline) (k : ℕ) (outline : Outline) → slice_get outlines k ≡ Some outline → slice_get (map metric_of (glyphs_from (map advance_of outlines) (map outline_bounds outlines) (map lengths_of outlines))) k ≡ Some (told outline)
metric_told [] k outline there = absurd (cc there)
metric_told (o ∷ outlines) zero outline there = let same : o ≡ outline = cc there in ap (λ (x : Outline). Some (told x)) same
metric_told (o ∷ outlines) (suc k) outline there = metric_told outlines k outline there

metrics_read : (file : List ℕ) (count whole glyph : ℕ) (hmtx : List ℕ) (metrics : List (ℕ × ℤ)) (metric : ℕ × ℤ) → glyph_count_in file ≡ Some count → metric_count_in file ≡ Some whole → table_in file HMTX ≡ Some hmtx → metrics_in whole count hmtx ≡ Some metrics → slice_get metrics glyph ≡ Some metric
    → metric_in file glyph ≡ Some metric
metrics_read file count whole glyph hmtx metrics metric count_there whole_there hmtx_there read there =
    ap (λ (n : Option ℕ). n >>= λ k. metric_count_in file >>= λ w. table_in file HMTX >>= λ h. metrics_in w k h >>= λ m. slice_get m glyph) count_there
    ∙ ap (λ (n : Option ℕ). n >>= λ w. table_in file HMTX >>= λ h. metrics_in w count h >>= λ m. slice_get m glyph) whole_there
    ∙ ap (λ (n : Option (List ℕ)). n >>= λ h. metrics_in whole count h >>= λ m. slice_get m glyph) hmtx_there
    ∙ ap (λ (n : Option (List (ℕ × ℤ))). n >>= λ m. slice_get m glyph) read
    ∙ there

metric_is : (project : Project) (tables : Tables) (file : List ℕ) (glyph : ℕ) (model : GlyphModel) → AreTablesOf project tables → InFile tables file → slice_get project.models glyph ≡ Some model
    → metric_in file glyph ≡ Some (told (default_outline model))
metric_is project tables file glyph model are own there =
    let facts = facts_of project in
    let metric = metric_told (outlines_of project) glyph (default_outline model) (get_map default_outline project.models glyph model there) in
    metrics_read file (length facts.names) (length facts.names) glyph tables.fixed.hmtx.items (metrics_of facts) (told (default_outline model))
    (count_is tables file facts own are.fixed.maxp) (metric_count_is tables file facts own are.fixed.hhea) own.hmtx are.fixed.hmtx metric

movement_is : (file : List ℕ) (hvar : List ℕ) (axes glyph : ℕ) (regions : List (List Triple)) (rows : List (List ℤ)) (row at : List ℤ) → table_in file HVAR ≡ Some hvar → MeansAdvances axes regions rows hvar → slice_get rows glyph ≡ Some row
    → movement_in file glyph at ≡ Some (weighted_sum regions row at)
movement_is file hvar axes glyph regions rows row at hvar_there means there =
    ap (λ (n : Option (List ℕ)). n >>= λ h. advances_in h >>= λ a. advance_movement a glyph at) hvar_there
    ∙ ap (λ n. n >>= λ a. advance_movement a glyph at) means.read
    ∙ means.movement_is glyph row at there

sum_is : (regions : List (List Triple)) (numbers at : List ℤ) → dot (scalars_at regions at) numbers ≡ weighted_sum regions numbers at
sum_is [] numbers at = refl
sum_is (region ∷ regions) [] at = refl
sum_is (region ∷ regions) (number ∷ numbers) at = ap (λ z. (scalar_of 16 region at *ℤ number) +ℤ z) (sum_is regions numbers at)

model_advance : (regions : List (List Triple)) (tuples : List GlyphTuple) (at : List ℤ) → FirstIsWhole regions → 1 ≤ length regions → 1 ≤ length tuples
    → model_value regions (map delta_advance tuples) at ≡ (pos 65536 *ℤ default_advance tuples) +ℤ weighted_sum (drop 1 regions) (map delta_advance (drop 1 tuples)) at
model_advance [] tuples at whole some some_tuples = absurd (omega arith)
model_advance (region ∷ regions) [] at whole some some_tuples = absurd (omega arith)
model_advance (region ∷ regions) (tuple ∷ tuples) at whole some some_tuples =
    value_over region regions at tuple tuples (whole 16 at) ∙ ap (λ z. (pos 65536 *ℤ tuple.advance) +ℤ z) (sum_is regions (map delta_advance tuples) at)

whole_advance : (advance : ℤ) → pos 0 ≤ℤ advance → pos (65536 * unsigned_abs advance) ≡ pos 65536 *ℤ advance
whole_advance (pos n) least = refl
whole_advance (negsuc n) least = absurd (omega (arith, ints))

advance_read : (file : List ℕ) (glyph : ℕ) (at : List ℤ) (metric : ℕ × ℤ) (movement : ℤ) → metric_in file glyph ≡ Some metric → movement_in file glyph at ≡ Some movement → advance_in file glyph at ≡ Some (pos (65536 * metric.0) +ℤ movement)
advance_read file glyph at metric movement metric_there movement_there =
    ap (λ (n : Option (ℕ × ℤ)). n >>= λ m. movement_in file glyph at >>= λ v. Some (pos (65536 * m.0) +ℤ v)) metric_there
    ∙ ap (λ (n : Option ℤ). n >>= λ v. Some (pos (65536 * metric.0) +ℤ v)) movement_there

regions_whole : (project : Project) → IsFit project → FirstIsWhole (regions_in project.supports)
regions_whole project fit = subst FirstIsWhole (sym (regions_are project fit)) (first_is_whole (length project.design.axes) (coordinates_of project.sorted) fit.masters.masters)

-- there is a master, the default
some_masters : (locations : List (List ℤ)) (axes : ℕ) → AreMasters axes locations → 1 ≤ length locations
some_masters [] axes masters = absurd masters.default_first
some_masters (at ∷ ats) axes masters = omega arith

pub advance_is : (project : Project) (tables : Tables) (file : List ℕ) (glyph : ℕ) (model : GlyphModel) (at : List ℤ) → IsFit project → IsFitModel (length project.sorted) model → AreTablesOf project tables → InFile tables file → slice_get project.models glyph ≡ Some model
    → advance_in file glyph at ≡ Some (model_value (regions_in project.supports) (map delta_advance model.tuples) at)
advance_is project tables file glyph model at fit own_fit are own there =
    let regions = regions_in project.supports in
    let advance = default_advance model.tuples in
    let movement = weighted_sum (drop 1 regions) (later_advances model) at in
    let masters = some_masters (coordinates_of project.sorted) (length project.design.axes) fit.masters.masters in
    let sorted = length-map project.sorted (λ location. location.items) in
    let some : 1 ≤ length regions = omega (arith, length-map project.supports (λ support. support.items), support_count project fit, masters, sorted) in
    let some_tuples : 1 ≤ length model.tuples = omega (arith, own_fit.one_each, masters, sorted) in
    let row = get_map later_advances project.models glyph model there in
    advance_read file glyph at (told (default_outline model)) movement (metric_is project tables file glyph model are own there)
    (movement_is file tables.hvar.items (length project.design.axes) glyph (drop 1 regions) (map later_advances project.models) (later_advances model) at own.hvar are.advances row)
    ∙ ap (λ z. Some z) (ap (λ z. z +ℤ movement) (whole_advance advance own_fit.default.least_advance) ∙ sym (model_advance regions model.tuples at (regions_whole project fit) some some_tuples))

-- ---- a glyph

pub has_glyphs : (project : Project) (tables : Tables) (file : List ℕ) → IsFit project → AreTablesOf project tables → InFile tables file → HasGlyphs project file
has_glyphs project tables file fit are own glyph model there =
    let axes = length project.design.axes in
    let regions = regions_in project.supports in
    let own_fit : IsFitModel (length project.sorted) model = subst (IsFitModel (length project.sorted)) (get_is project.models glyph model model there) (All-get_or (IsFitModel (length project.sorted)) project.models glyph model (get_within project.models glyph model there) fit.models) in
    let pair = partner (AreOf regions) project.models are.varied.glyphs glyph model are.varied.are there in
    let tuples = pair.0 in
    let outline = outline_is project tables file glyph model fit are own there in
    let advance = λ (at : List ℤ). advance_is project tables file glyph model at fit own_fit are own there in
    record {
      outline = outline;
      tuples = tuples;
      written = record { bytes = tables.varied.bytes.items; there = own.gvar; meant = are.varied.means glyph model tuples there pair.1 };
      least = pair.2;
      advance = advance;
      draws = λ locations outlines masters same within is_model. record {
        default = outline ∙ ap (λ (o : Outline). Some o.contours) (default_is (regions_of locations) locations outlines model is_model);
        draws = drawing_law axes locations outlines model tuples masters within own_fit.variable.tuples_are.within is_model (subst (λ (r : List (List Triple)). AreVariations model.lengths r model.tuples tuples) same pair.2);
        advance = λ at. advance at ∙ ap (λ z. Some z) (ap (λ (r : List (List Triple)). model_value r (map delta_advance model.tuples) at) same ∙ ap (λ deltas. model_value (regions_of locations) deltas at) is_model.tuples.advances);
      };
    }
