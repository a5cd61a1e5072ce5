-- What the tables mean before they are put together.
use Rattle.std.specs.Prelude.{◌≡◌, ℕ, ℤ, ◌+◌, List, [], ◌∷◌, ◌++◌, drop, length, map, Option, Some, None, option_map, slice_get, Vec}
use Rattle.std.specs.List.{AllZip}
use Rattle.std.specs.declared.alloc.Global.{Global}
use Rattle.avar_fvar.specs.Axes.{axes_in}
use Rattle.avar_fvar.specs.SegmentMaps.{MapsAsAxes}
use Rattle.cmap_name.specs.Characters.{Agree, glyph_of_character}
use Rattle.cmap_name.specs.Codes.{glyph_of}
use Rattle.cmap_name.specs.Names as names
use Rattle.delta_solve.specs.GlyphModels.{delta_advance}
use Rattle.delta_solve.specs.declared.model.GlyphModel.{GlyphModel}
use Rattle.feature_var.specs.Meaning.{IsTableOf}
use Rattle.font_build.specs.Counts.{AreOf, total}
use Rattle.font_build.specs.FontTags.{AVAR, CMAP, FVAR, GLYF, GSUB, GVAR, HHEA, HMTX, HVAR, LOCA, MAXP, NAME, OS2, POST}
use Rattle.font_build.specs.Glyphs.{HasTuples}
use Rattle.font_build.specs.declared.design_tables.DesignTables.{DesignTables}
use Rattle.font_build.specs.declared.fixed_tables.FixedTables.{FixedTables}
use Rattle.font_build.specs.declared.tables.Tables.{Tables}
use Rattle.font_model.specs.declared.parts.Project.{Project}
use Rattle.font_tables.specs.FontAxes.{axis_records, font_axes}
use Rattle.font_tables.specs.FontFacts.{facts_of}
use Rattle.font_tables.specs.FontNames as font_names
use Rattle.font_tables.specs.Outlines.{outlines_of}
use Rattle.glyf_loca.specs.Layout.{contours_of}
use Rattle.glyf_loca.specs.Slices.{glyphs_in}
use Rattle.glyph_variations.specs.Conditions.{IsVariable, point_count}
use Rattle.glyph_variations.specs.Variations.{explicit_points, outline_points}
use Rattle.gvar_table.specs.Tuples.{AreTuplesOf, variation_of}
use Rattle.gvar_table.specs.declared.tuple.Tuple.{Tuple}
use Rattle.hvar.specs.Advances.{MeansAdvances}
use Rattle.plain_tables.specs.FixedFields.{AreRead}
use Rattle.plain_tables.specs.FontHeader.{head_of, maxp_of}
use Rattle.plain_tables.specs.GlyphNames as glyph_names
use Rattle.plain_tables.specs.GlyphNames.{post_of}
use Rattle.plain_tables.specs.HorizontalMetrics.{hhea_of, metrics_in, metrics_of}
use Rattle.plain_tables.specs.StyleMetrics.{os2_of}
use Rattle.plain_tables.specs.declared.facts.Facts.{Facts}
use Rattle.region_support.specs.Coordinates.{regions_in}
use Rattle.sfnt_write.specs.FontFile.{HEAD}
use Rattle.sfnt_write.specs.Tables.{IsPlainHead, Slice}
use Rattle.variation_rules.specs.declared.region.Triple.{Triple}
use Rattle.variation_rules.specs.declared.tuple.TupleVariation.{TupleVariation}

-- ---- the tables of fixed fields

pub record AreFixed (facts : Facts) (tables : FixedTables) : Type 0 where
  pub head : AreRead (head_of facts) tables.head.items
  pub plain : IsPlainHead tables.head.items
  pub hhea : AreRead (hhea_of facts) tables.hhea.items
  pub hmtx : metrics_in (length facts.names) (length facts.names) tables.hmtx.items ≡ Some (metrics_of facts)
  pub maxp : AreRead (maxp_of facts) tables.maxp.items
  pub os2 : AreRead (os2_of facts) tables.os2.items
  pub post : AreRead (post_of facts) tables.post.items
  pub names : glyph_names.names_in tables.post.items ≡ Some facts.names

-- ---- axes and names

pub record AreDesign (project : Project) (tables : DesignTables) : Type 0 where
  pub avar : MapsAsAxes (axis_records project.design) tables.avar.items
  pub fvar : axes_in tables.fvar.items ≡ Some (font_axes project.design)
  pub name : names.names_in tables.name.items ≡ Some (font_names.names_of project)

-- ---- variations

-- the deltas of the advance, of each master after the default
abbrev pub later_advances : GlyphModel → List ℤ
later_advances model = map delta_advance (drop 1 model.tuples)

abbrev pub is_variable : GlyphModel → Type 0
is_variable model = IsVariable model.lengths model.tuples

-- the points of a glyph, with the four phantom points
abbrev pub all_points : GlyphModel → ℕ
all_points model = point_count model.tuples + 4

-- the tuples of a glyph are those of its model, and can be written
pub record AreOfModel (axes : ℕ) (regions : List (List Triple)) (model : GlyphModel) (tuples : List Tuple) : Type 0 where
  pub are : AreOf regions model (map variation_of tuples)
  pub fit : AreTuplesOf axes (all_points model) tuples

abbrev pub variations_of : List (List Tuple) → List (List TupleVariation)
variations_of glyphs = map (λ tuples. map variation_of tuples) glyphs

-- how much glyphs with these models have
pub record AreTotals (models : List GlyphModel) (glyphs : List (List TupleVariation)) (tuples explicit points : ℕ) : Type 0 where
  pub tuples_are : tuples ≡ total (λ model own. length own) models glyphs
  pub explicit_are : explicit ≡ total (λ model own. explicit_points (point_count model.tuples) own) models glyphs
  pub points_are : points ≡ total (λ model own. outline_points (point_count model.tuples) own) models glyphs

-- the tuples of all glyphs, and how much they hold
pub record AreFound (axes : ℕ) (regions : List (List Triple)) (models : List GlyphModel) (glyphs : List (List Tuple)) (tuples explicit points : ℕ) : Type 0 where
  pub each : AllZip (AreOfModel axes regions) models glyphs
  pub totals : AreTotals models (variations_of glyphs) tuples explicit points

-- the table of all glyphs, and how much it holds
pub record IsVaried (axes : ℕ) (regions : List (List Triple)) (models : List GlyphModel) (gvar : List ℕ) (tuples explicit points : ℕ) : Type 0 where
  pub glyphs : List (List TupleVariation)
  pub are : AllZip (AreOf regions) models glyphs
  pub totals : AreTotals models glyphs tuples explicit points
  pub means : (glyph : ℕ) (model : GlyphModel) (own : List TupleVariation) → slice_get models glyph ≡ Some model → slice_get glyphs glyph ≡ Some own
      → HasTuples axes (length models) (all_points model) glyph own gvar

-- ---- all tables

pub record AreTablesOf (project : Project) (tables : Tables) : Type 0 where
  pub outlines : glyphs_in (facts_of project).long (length project.models) tables.loca.items tables.glyf.items ≡ Some (contours_of (outlines_of project))
  pub fixed : AreFixed (facts_of project) tables.fixed
  pub design : AreDesign project tables.design
  pub characters : (c : ℕ) → glyph_of_character tables.cmap.items c ≡ Some (glyph_of project.codes c)
  pub agree : Agree tables.cmap.items
  pub substitutions : IsTableOf project.design.last project.cells project.subs (option_map (λ gsub. gsub.items) tables.gsub)
  pub advances : MeansAdvances (length project.design.axes) (drop 1 (regions_in project.supports)) (map later_advances project.models) tables.hvar.items
  pub varied : IsVaried (length project.design.axes) (regions_in project.supports) project.models tables.varied.bytes.items tables.varied.tuples tables.varied.explicit tables.varied.points

-- the tables of every font, by rising tags
abbrev pub plain_slices_of : Tables → List Slice
plain_slices_of tables =
    record { tag = HVAR; bytes = tables.hvar.items }
    ∷ record { tag = OS2; bytes = tables.fixed.os2.items }
    ∷ record { tag = AVAR; bytes = tables.design.avar.items }
    ∷ record { tag = CMAP; bytes = tables.cmap.items }
    ∷ record { tag = FVAR; bytes = tables.design.fvar.items }
    ∷ record { tag = GLYF; bytes = tables.glyf.items }
    ∷ record { tag = GVAR; bytes = tables.varied.bytes.items }
    ∷ record { tag = HEAD; bytes = tables.fixed.head.items }
    ∷ record { tag = HHEA; bytes = tables.fixed.hhea.items }
    ∷ record { tag = HMTX; bytes = tables.fixed.hmtx.items }
    ∷ record { tag = LOCA; bytes = tables.loca.items }
    ∷ record { tag = MAXP; bytes = tables.fixed.maxp.items }
    ∷ record { tag = NAME; bytes = tables.design.name.items }
    ∷ record { tag = POST; bytes = tables.fixed.post.items }
    ∷ []

-- the table of substitutions, where it is there
abbrev pub gsub_slices : Option (Vec ℕ Global) → List Slice
gsub_slices None = []
gsub_slices (Some gsub) = record { tag = GSUB; bytes = gsub.items } ∷ []

-- all tables, by rising tags
abbrev pub slices_of : Tables → List Slice
slices_of tables = gsub_slices tables.gsub ++ plain_slices_of tables
