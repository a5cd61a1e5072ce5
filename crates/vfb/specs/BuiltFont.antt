-- The font that is built: what the bytes of its file have, read by OpenType's tables, over the outlines of the masters; and
-- what is said of it.
use Rattle.std.specs.Prelude.{◌≡◌, ℕ, ℤ, ◌+◌, ◌<◌, List, [], ◌∷◌, length, map, Option, Some, None, slice_get, slice_index_or}
use Rattle.std.specs.List.{AllZip, concat}
use Rattle.fixpoint.specs.Rounding.{round_up}
use Rattle.fixpoint.specs.declared.plane.Pair.{Pair}
use Rattle.glif.specs.declared.shape.Outline.{Outline}
use Rattle.variation_rules.specs.DrawnOutline.{Fills, drawn_advance}
use Rattle.variation_rules.specs.declared.region.Triple.{Triple}
use Rattle.variation_rules.specs.declared.tuple.TupleVariation.{TupleVariation}
use Rattle.region_support.specs.Regions.{regions_of}
use Rattle.delta_solve.specs.Deltas.{deltas_of, model_value}
use Rattle.delta_solve.specs.Outlines.{advance_of, contour_lengths, points_of}
use Rattle.delta_solve.specs.GlyphModels.{IsModelOf, default_of}
use Rattle.delta_solve.specs.declared.model.GlyphModel.{GlyphModel}
use Rattle.glyph_variations.specs.Draws.{DrawsMasters, DrawsModel, outline_at}
use Rattle.glyph_variations.specs.Variations.{AreVariations}
use Rattle.cmap_name.specs.Characters.{Agree}
use Rattle.cmap_name.specs.Codes.{glyph_of}
use Rattle.sfnt_write.specs.Holds.{HasTable}
use Rattle.font_model.specs.Fonts.{Font, IsProjectOf}
use Rattle.font_model.specs.declared.parts.Project.{Project}
use Rattle.font_build.specs.Counts.{AreCounted}
use Rattle.font_build.specs.DesignAxes.{HasAxes}
use Rattle.font_build.specs.FontReading.{advance_in, character_in, outline_in}
use Rattle.font_build.specs.FontTags.{CMAP, GVAR}
use Rattle.font_build.specs.Glyphs.{HasTuples}
use Rattle.font_build.specs.PlainFields.{HasFields}
use Rattle.font_build.specs.Substitution.{HasSubstitutions}
use Rattle.vfb.specs.Lines.{summary}
use Rattle.vfb.specs.Product.{Product}

-- the region of each master
abbrev pub regions : Font → List (List Triple)
regions font = regions_of font.locations

-- this holds of the glyph of each number, with its outlines, one a master
abbrev pub AtGlyphs : Font → (ℕ → List Outline → Type 0) → Type 0
AtGlyphs font Has = (glyph : ℕ) (outlines : List Outline) → slice_get font.glyphs glyph ≡ Some outlines → Has glyph outlines

-- The table of variations has tuples of the glyph of this number, and this holds of them. (Bytes mean one list of tuples at
-- most: a law of their meaning.)
pub record HasVariations (font : Font) (file : List ℕ) (glyph : ℕ) (outlines : List Outline) (Has : List TupleVariation → Type 0) : Type 0 where
  pub tuples : List TupleVariation
  pub written : HasTable file GVAR (HasTuples (length font.design.axes) (length font.glyphs) (length (points_of (default_of outlines)) + 4) glyph tuples)
  pub has : Has tuples

-- the tuples fill the outline of the default, and this holds with what they fill in (in one way at most: a law)
pub record FillsOutline (outlines : List Outline) (Has : List TupleVariation → List (List Pair) → Type 0) (tuples : List TupleVariation) : Type 0 where
  pub fills : List (List Pair)
  pub are_fills : Fills (contour_lengths (default_of outlines)) (points_of (default_of outlines)) tuples fills
  pub has : Has tuples fills

-- ---- what is drawn

-- a glyph's outline is that of the default, and at every location each coordinate is drawn as the masters' model has it
pub record DrawsGlyph (font : Font) (file : List ℕ) (glyph : ℕ) (outlines : List Outline) : Type 0 where
  pub outline : outline_in file glyph ≡ Some (default_of outlines).contours
  pub variations : HasVariations font file glyph outlines (FillsOutline outlines (DrawsModel (regions font) font.locations outlines))

-- a number that is there, in 65536ths, is this one when rounded
abbrev pub RoundsTo : Option ℤ → ℤ → Type 0
RoundsTo None value = ⊥
RoundsTo (Some number) value = round_up number 65536 ≡ value

-- at the location of each master it is drawn, rounded, as that master's drawing, and has its advance
pub record ReturnsMasters (font : Font) (file : List ℕ) (glyph : ℕ) (outlines : List Outline) : Type 0 where
  pub variations : HasVariations font file glyph outlines (FillsOutline outlines (DrawsMasters font.locations outlines))
  pub advances : (master : ℕ) → master < length outlines
      → RoundsTo (advance_in file glyph (slice_index_or font.locations master [])) (advance_of (outline_at outlines master))

-- what the masters' model gives of the advance
abbrev pub model_advance : Font → List Outline → List ℤ → ℤ
model_advance font outlines at = model_value (regions font) (deltas_of (regions font) font.locations (map advance_of outlines)) at

-- at every location that is the advance, by `hmtx` with `HVAR` and by the phantom points
pub record AdvancesAsModel (font : Font) (file : List ℕ) (glyph : ℕ) (outlines : List Outline) : Type 0 where
  pub metrics : (at : List ℤ) → advance_in file glyph at ≡ Some (model_advance font outlines at)
  pub variations : HasVariations font file glyph outlines (λ tuples. (at : List ℤ) →
      drawn_advance (advance_of (default_of outlines)) (length (points_of (default_of outlines))) at tuples ≡ model_advance font outlines at)

-- the tuples are those of the glyph's model that name on each contour the least set of points from which all deltas follow
pub record NamesLeast (font : Font) (outlines : List Outline) (tuples : List TupleVariation) : Type 0 where
  pub model : GlyphModel
  pub is_model : IsModelOf (regions font) font.locations outlines model
  pub least : AreVariations model.lengths (regions font) model.tuples tuples

-- ---- the whole

-- each character has the glyph that the font gives it, or else glyph 0; where there are two subtables, they agree
pub record MapsCharacters (font : Font) (file : List ℕ) : Type 0 where
  pub glyphs : (c : ℕ) → character_in file c ≡ Some (glyph_of font.codes c)
  pub agree : HasTable file CMAP Agree

-- it is a font file, whose tables have the fields and names of the font's project, and are exactly those that they must be
pub record TellsFields (font : Font) (file : List ℕ) : Type 0 where
  pub project : Project
  pub is_project : IsProjectOf font project
  pub has : HasFields project file

-- every glyph is drawn as the masters' model has it
abbrev pub DrawsGlyphs : Font → List ℕ → Type 0
DrawsGlyphs font file = AtGlyphs font (DrawsGlyph font file)

-- every glyph gives back its masters
abbrev pub ReturnsAllMasters : Font → List ℕ → Type 0
ReturnsAllMasters font file = AtGlyphs font (ReturnsMasters font file)

-- every advance is that of the masters' model
abbrev pub HasAdvances : Font → List ℕ → Type 0
HasAdvances font file = AtGlyphs font (AdvancesAsModel font file)

-- the axes, the named instances, their names and their maps
abbrev pub HasDesign : Font → List ℕ → Type 0
HasDesign font file = HasAxes font.design file

-- in place of each glyph stands, at every location, the one that the rules make of it
abbrev pub SubstitutesAsRules : Font → List ℕ → Type 0
SubstitutesAsRules font file = HasSubstitutions font.design font.names file

-- every tuple names the least sets of points
abbrev pub HasLeastSets : Font → List ℕ → Type 0
HasLeastSets font file = AtGlyphs font (λ glyph outlines. HasVariations font file glyph outlines (NamesLeast font outlines))

-- The headline: the bytes are a font file that draws and tells the font. Each field says first that what it speaks of can
-- be read.
pub record IsFontFileOf (font : Font) (file : List ℕ) : Type 0 where
  pub draws : DrawsGlyphs font file
  pub masters : ReturnsAllMasters font file
  pub advances : HasAdvances font file
  pub characters : MapsCharacters font file
  pub axes : HasDesign font file
  pub substitutes : SubstitutesAsRules font file
  pub least : HasLeastSets font file
  pub fields : TellsFields font file

-- The text counts the font's glyphs, masters, axes and tuples, and the points that these name among all points. (A glyph
-- has one model, and a model one list of tuples: laws of theirs.)
pub record IsSummaryOf (font : Font) (text : List ℕ) : Type 0 where
  pub models : List GlyphModel
  pub tuples : ℕ
  pub explicit : ℕ
  pub points : ℕ
  pub are_models : AllZip (IsModelOf (regions font) font.locations) font.glyphs models
  pub counted : AreCounted (regions font) models tuples explicit points
  pub counts : text ≡ summary (length font.names) (length font.locations) (length font.design.axes) tuples explicit points

-- one file at this path, which is the font's, and its summary
pub record MakesFont (font : Font) (out : List ℕ) (product : Product) : Type 0 where
  pub pieces : List (List ℕ)
  pub files_are : product.files ≡ record { path = out; pieces = pieces } ∷ []
  pub font_file : IsFontFileOf font (concat pieces)
  pub said : IsSummaryOf font product.text
