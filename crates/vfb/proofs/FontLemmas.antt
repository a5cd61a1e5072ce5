-- The font that is built has what its font file must have.
use Rattle.std.proofs.Common.{◌≡◌, ℕ, ℤ, zero, suc, ◌+◌, List, [], ◌∷◌, length, All, Option, Some, refl, sym, ◌∙◌, ap, subst, arith}
use Rattle.std.specs.Prelude.{slice_get, slice_index_or}
use Rattle.std.specs.List.{AllZip, concat}
use Rattle.std.proofs.lemmas.List.{length-map}
use Rattle.arrayvec.specs.ArrayVec.{ArrayVec}
use Rattle.fixpoint.specs.Rounding.{round_up}
use Rattle.glif.specs.Limits.{IsWithinLimits}
use Rattle.glif.specs.declared.shape.Outline.{Outline}
use Rattle.variation_rules.specs.declared.region.Triple.{Triple}
use Rattle.variation_rules.specs.declared.tuple.TupleVariation.{TupleVariation}
use Rattle.region_support.specs.Coordinates.{regions_in}
use Rattle.region_support.specs.MasterOrder.{AreMasters}
use Rattle.region_support.specs.Regions.{regions_of}
use Rattle.delta_solve.specs.Deltas.{whole_rows}
use Rattle.delta_solve.specs.GlyphModels.{IsModelOf, default_of}
use Rattle.delta_solve.specs.Outlines.{advance_of, points_of}
use Rattle.delta_solve.specs.declared.model.GlyphModel.{GlyphModel}
use Rattle.glyph_variations.specs.Conditions.{point_count}
use Rattle.glyph_variations.specs.Draws.{outline_at}
use Rattle.glyph_variations.specs.Variations.{AreVariations}
use Rattle.glyph_variations.proofs.ModelLemmas.{points_of_default}
use Rattle.cmap_name.specs.Codes.{glyph_of}
use Rattle.designspace.specs.declared.document.Designspace.{Designspace}
use Rattle.sfnt_write.specs.Holds.{HasTable}
use Rattle.font_model.specs.Fit.{IsFit, names_of}
use Rattle.font_model.specs.Fonts.{Font, IsProjectOf, numbered}
use Rattle.font_model.specs.declared.parts.Project.{Project}
use Rattle.font_build.specs.Characters.{HasCharacters}
use Rattle.font_build.specs.Counts.{AreCounted, IsCounted}
use Rattle.font_build.specs.DesignAxes.{HasAxes}
use Rattle.font_build.specs.FontTags.{GVAR}
use Rattle.font_build.specs.Glyphs.{DrawsOutlines, HasGlyphs, HasTuples, IsGlyphOf}
use Rattle.font_build.specs.PlainFields.{HasFields}
use Rattle.font_build.specs.Substitution.{HasSubstitutions}
use Rattle.font_build.specs.declared.built.Built.{Built}
use Rattle.outside.specs.Files.{Files, content}
use Rattle.vfb.specs.BuiltFont.{AdvancesAsModel, DrawsGlyph, HasVariations, IsFontFileOf, IsSummaryOf, MakesFont, NamesLeast, ReturnsMasters, RoundsTo}
use Rattle.vfb.specs.Lines.{summary}
use Rattle.vfb.specs.Product.{Product, written}
use Rattle.vfb.proofs.FileLemmas.{content-put}

-- ---- place by place

get_zip : {A B : Type 0} (R : A → B → Type 0) (xs : List A) (ys : List B) (i : ℕ) (x : A) → AllZip R xs ys → slice_get xs i ≡ Some x → (y : B) × (slice_get ys i ≡ Some y) × R x y
get_zip R [] ys zero x all is = absurd cc
get_zip R [] ys (suc i) x all is = absurd cc
get_zip R (first ∷ xs) [] i x all is = absurd all
get_zip R (first ∷ xs) (y ∷ ys) zero x all is = let same : first ≡ x = cc in (y, refl, subst (λ x. R x y) same all.0)
get_zip R (first ∷ xs) (y ∷ ys) (suc i) x all is = get_zip R xs ys i x all.1 is

get_all : {A : Type 0} (P : A → Type 0) (xs : List A) (i : ℕ) (x : A) → All P xs → slice_get xs i ≡ Some x → P x
get_all P [] zero x all is = absurd cc
get_all P [] (suc i) x all is = absurd cc
get_all P (first ∷ xs) zero x all is = let same : first ≡ x = cc in subst P same (all 0 first (omega arith))
get_all P (first ∷ xs) (suc i) x all is = get_all P xs i x (λ k d below. all (suc k) d (omega (arith, below))) is

numbered_names : (number : ℕ) (names : List (List ℕ)) → names_of (numbered number names) ≡ names
numbered_names number [] = refl
numbered_names number (name ∷ names) = ap (λ (rest : List (List ℕ)). name ∷ rest) (numbered_names (number + 1) names)

zip_count : {A B : Type 0} (R : A → B → Type 0) (xs : List A) (ys : List B) → AllZip R xs ys → length ys ≡ length xs
zip_count R [] [] all = refl
zip_count R [] (y ∷ ys) all = absurd all
zip_count R (x ∷ xs) [] all = absurd all
zip_count R (x ∷ xs) (y ∷ ys) all = ap suc (zip_count R xs ys all.1)

numbered_count : (number : ℕ) (names : List (List ℕ)) → length (numbered number names) ≡ length names
numbered_count number [] = refl
numbered_count number (name ∷ names) = ap suc (numbered_count (number + 1) names)

-- ---- the font file

module _ (project : Project) (font : Font) (file : List ℕ) (fit : IsFit project) (is : IsProjectOf font project) (within : All (All IsWithinLimits) font.glyphs) where
  are_masters : AreMasters (length project.design.axes) font.locations
  are_masters = subst (AreMasters (length project.design.axes)) is.locations fit.masters.masters

  glyph_count : length project.models ≡ length font.glyphs
  glyph_count = zip_count (IsModelOf (regions_of font.locations) font.locations) font.glyphs project.models is.models

  axis_count : length project.design.axes ≡ length font.design.axes
  axis_count = ap (λ (design : Designspace). length design.axes) is.design

  -- one glyph, with its model
  module _ (glyph : ℕ) (outlines : List Outline) (limits : All IsWithinLimits outlines) (model : GlyphModel)
      (is_model : IsModelOf (regions_of font.locations) font.locations outlines model)
      (own : IsGlyphOf (length project.design.axes) (length project.models) (regions_in project.supports) file glyph model) where
    drawn_outlines : DrawsOutlines file glyph own.tuples font.locations outlines
    drawn_outlines = own.draws font.locations outlines are_masters is.regions limits is_model

    has_tuples : HasTable file GVAR (HasTuples (length font.design.axes) (length font.glyphs) (length (points_of (default_of outlines)) + 4) glyph own.tuples)
    has_tuples =
        subst (λ (points : ℕ). HasTable file GVAR (HasTuples (length font.design.axes) (length font.glyphs) (points + 4) glyph own.tuples))
        (points_of_default (whole_rows (regions_of font.locations) font.locations) outlines model.tuples is_model.tuples)
        (subst (λ (glyphs : ℕ). HasTable file GVAR (HasTuples (length font.design.axes) glyphs (point_count model.tuples + 4) glyph own.tuples)) glyph_count
        (subst (λ (axes : ℕ). HasTable file GVAR (HasTuples axes (length project.models) (point_count model.tuples + 4) glyph own.tuples)) axis_count own.written))

    variations : (Has : List TupleVariation → Type 0) → Has own.tuples → HasVariations font file glyph outlines Has
    variations Has has = record { tuples = own.tuples; written = has_tuples; has = has }

    draws_glyph : DrawsGlyph font file glyph outlines
    draws_glyph =
        let drawn = drawn_outlines.draws in
        record { outline = drawn_outlines.default; variations = variations _ (record { fills = drawn.fills; are_fills = drawn.are_fills; has = drawn.model }) }

    returns_masters : ReturnsMasters font file glyph outlines
    returns_masters =
        let drawn = drawn_outlines.draws in
        record {
          variations = variations _ (record { fills = drawn.fills; are_fills = drawn.are_fills; has = drawn.masters });
          advances = λ master below.
              let at = slice_index_or font.locations master [] in
              subst (λ (number : Option ℤ). RoundsTo number (advance_of (outline_at outlines master))) (sym (drawn_outlines.advance at))
              (ap (λ number. round_up number 65536) (sym (drawn.model.advances at)) ∙ drawn.masters.advances master below);
        }

    advances_as_model : AdvancesAsModel font file glyph outlines
    advances_as_model = record { metrics = drawn_outlines.advance; variations = variations _ drawn_outlines.draws.model.advances }

    names_least : HasVariations font file glyph outlines (NamesLeast font outlines)
    names_least =
        variations _ (record {
          model = model;
          is_model = is_model;
          least = subst (λ (regions : List (List Triple)). AreVariations model.lengths regions model.tuples own.tuples) is.regions own.least;
        })

  -- each glyph has a model
  module _ (glyphs : HasGlyphs project file) where
    at_model : {P : Type 0} (glyph : ℕ) (outlines : List Outline) → slice_get font.glyphs glyph ≡ Some outlines
        → ((model : GlyphModel) → IsModelOf (regions_of font.locations) font.locations outlines model
        → IsGlyphOf (length project.design.axes) (length project.models) (regions_in project.supports) file glyph model → P) → P
    at_model glyph outlines stands then =
        let found = get_zip (IsModelOf (regions_of font.locations) font.locations) font.glyphs project.models glyph outlines is.models stands in
        then found.0 found.2 (glyphs glyph found.0 found.1)

    limits_at : (glyph : ℕ) (outlines : List Outline) → slice_get font.glyphs glyph ≡ Some outlines → All IsWithinLimits outlines
    limits_at glyph outlines stands = get_all (All IsWithinLimits) font.glyphs glyph outlines within stands

    names_are : names_of project.names.entries ≡ font.names
    names_are = ap names_of is.names ∙ numbered_names 0 font.names

    is_font_file : HasCharacters project file → HasAxes project.design file → HasSubstitutions project.design (names_of project.names.entries) file → HasFields project file → IsFontFileOf font file
    is_font_file characters axes substitutions fields = record {
      draws = λ glyph outlines stands. at_model glyph outlines stands (draws_glyph glyph outlines (limits_at glyph outlines stands));
      masters = λ glyph outlines stands. at_model glyph outlines stands (returns_masters glyph outlines (limits_at glyph outlines stands));
      advances = λ glyph outlines stands. at_model glyph outlines stands (advances_as_model glyph outlines (limits_at glyph outlines stands));
      characters = record { glyphs = λ c. characters.glyphs c ∙ ap (λ codes. Some (glyph_of codes c)) is.codes; agree = characters.agree };
      axes = subst (λ (design : Designspace). HasAxes design file) is.design axes;
      substitutes =
          subst (λ (design : Designspace). HasSubstitutions design font.names file) is.design
          (subst (λ (names : List (List ℕ)). HasSubstitutions project.design names file) names_are substitutions);
      least = λ glyph outlines stands. at_model glyph outlines stands (names_least glyph outlines (limits_at glyph outlines stands));
      fields = record { project = project; is_project = is; has = fields };
    }

-- ---- its summary

module _ (project : Project) (font : Font) (is : IsProjectOf font project) where
  name_count : length project.names.entries ≡ length font.names
  name_count = ap length is.names ∙ numbered_count 0 font.names

  master_count : length project.sorted ≡ length font.locations
  master_count = sym (length-map project.sorted (λ (at : ArrayVec ℤ). at.items)) ∙ ap length is.locations

  is_summary : (built : Built) (text : List ℕ) → IsCounted project built
      → text ≡ summary (length project.names.entries) (length project.sorted) (length project.design.axes) built.tuples built.explicit built.points → IsSummaryOf font text
  is_summary built text counted counts = record {
    models = project.models;
    tuples = built.tuples;
    explicit = built.explicit;
    points = built.points;
    are_models = is.models;
    counted = subst (λ (regions : List (List Triple)). AreCounted regions project.models built.tuples built.explicit built.points) is.regions counted;
    counts =
        counts ∙ (ap (λ (n : ℕ). summary n (length project.sorted) (length project.design.axes) built.tuples built.explicit built.points) name_count
        ∙ (ap (λ (n : ℕ). summary (length font.names) n (length project.design.axes) built.tuples built.explicit built.points) master_count
        ∙ ap (λ (design : Designspace). summary (length font.names) (length font.locations) (length design.axes) built.tuples built.explicit built.points) is.design));
  }

-- ---- the product

pub makes_font : (project : Project) (font : Font) (out : List ℕ) (product : Product) (pieces : List (List ℕ)) (built : Built) → IsFit project
    → product.files ≡ record { path = out; pieces = pieces } ∷ [] → HasGlyphs project (concat pieces) → HasCharacters project (concat pieces)
    → HasAxes project.design (concat pieces) → HasSubstitutions project.design (names_of project.names.entries) (concat pieces) → HasFields project (concat pieces) → IsCounted project built
    → product.text ≡ summary (length project.names.entries) (length project.sorted) (length project.design.axes) built.tuples built.explicit built.points
    → All (All IsWithinLimits) font.glyphs → IsProjectOf font project → MakesFont font out product
makes_font project font out product pieces built fit files glyphs characters axes substitutions fields counted counts within is = record {
  pieces = pieces;
  files_are = files;
  font_file = is_font_file project font (concat pieces) fit is within glyphs characters axes substitutions fields;
  said = is_summary project font is built product.text counted counts;
}

-- what is written is the font's wherever it is written
pub font_in_file : (font : Font) (out : List ℕ) (product : Product) (old : Files) → MakesFont font out product → IsFontFileOf font (content (written product.files old) out)
font_in_file font out product old makes =
    subst (λ files. IsFontFileOf font (content (written files old) out)) (sym makes.files_are)
    (subst (IsFontFileOf font) (sym (content-put old out (concat makes.pieces))) makes.font_file)
