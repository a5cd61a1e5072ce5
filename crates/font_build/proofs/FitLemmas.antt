-- What holds of the values that are made of a project within limits.
use Rattle.std.proofs.Common.{◌≡◌, ℕ, ℤ, pos, negsuc, ◌+◌, ◌-◌, ◌≤◌, List, [], ◌∷◌, All, length, map, drop, sum_by, FitsSigned, refl, sym, ap, subst, ◌∙◌, arith}
use Rattle.std.proofs.lemmas.Int.{ints}
use Rattle.std.proofs.lemmas.List.{length-drop, length-map}
use Rattle.std.proofs.lemmas.List.Elements.{All-append, All-contains, All-drop, All-from_recursion, All-head, All-map, All-nil, All-tail, All-weaker}
use Rattle.std.proofs.lemmas.List.Sums.{sum_by-cons}
use Rattle.std.specs.Prelude.{◌≤ℤ◌}
use Rattle.std.specs.Int.{w16}
use Rattle.std.specs.List.{AllByRecursion}
use Rattle.arrayvec.specs.ArrayVec.{ArrayVec, array_vec_len}
use Rattle.cmap_name.specs.Codes.{Rise}
use Rattle.delta_solve.specs.GlyphModels.{IsTupleWithin, delta_advance}
use Rattle.delta_solve.specs.Outlines.{advance_of}
use Rattle.delta_solve.specs.declared.model.GlyphModel.{GlyphModel}
use Rattle.delta_solve.specs.declared.model.GlyphTuple.{GlyphTuple}
use Rattle.font_build.proofs.Laws.{bounds_law}
use Rattle.font_build.proofs.ListLemmas.{under, weaker}
use Rattle.font_build.specs.TableSteps.{is_variable, later_advances}
use Rattle.font_model.specs.DefaultOutline.{default_outline}
use Rattle.font_model.specs.Fit.{IsFit, IsFitModel, IsGlyphName, names_of}
use Rattle.font_model.specs.declared.parts.Project.{Project}
use Rattle.font_tables.specs.Drawable.{IsDrawable}
use Rattle.font_tables.specs.FontFacts.{facts_of}
use Rattle.font_tables.specs.Outlines.{lengths_of, outlines_of}
use Rattle.glif.specs.Limits.{IsContourWithin, IsPointWithin, IsWithinLimits}
use Rattle.glif.specs.declared.shape.Outline.{Outline}
use Rattle.glif.specs.declared.shape.Point.{Point}
use Rattle.glyf_loca.specs.Bounds.{bounds_of, outline_bounds, points_in, xs_of, ys_of}
use Rattle.glyf_loca.specs.Limits.{AreFit}
use Rattle.glyph_variations.specs.Conditions.{AreWritable}
use Rattle.item_var_store.specs.Rows.{AreRows}
use Rattle.plain_tables.specs.Conditions.{AreBoundsWithin, AreFacts, AreLengthsWithin, CodesRise, IsAdvanceWithin, IsNameWithin}
use Rattle.region_support.specs.Coordinates.{coordinates_of, regions_in}
use Rattle.region_support.specs.Regions.{AreNoneIfIgnored, AreNormalisedRegions, IsNormalisedTriple, regions_of}
use Rattle.region_support.proofs.RangeLemmas.{regions_normalised}
use Rattle.region_support.proofs.RegionLaw.{none_if_ignored, regions_count, same_lengths}
use Rattle.variation_rules.specs.declared.region.Triple.{Triple}

-- ---- the default's outlines

pub drawable : (project : Project) → IsFit project → All IsDrawable project.models
drawable project fit = All-weaker (IsFitModel (length project.sorted)) IsDrawable (λ model own. record { contours = own.variable.whole; kinds = own.kinds }) project.models fit.models

pub all_variable : (project : Project) → IsFit project → All is_variable project.models
all_variable project fit = All-weaker (IsFitModel (length project.sorted)) is_variable (λ model own. own.variable) project.models fit.models

pub outlines_within : (project : Project) → IsFit project → All IsWithinLimits (outlines_of project)
outlines_within project fit =
    All-map IsWithinLimits default_outline project.models (All-weaker (IsFitModel (length project.sorted)) (λ model. IsWithinLimits (default_outline model)) (λ model own. own.default) project.models fit.models)

pub outlines_count : (project : Project) → length (outlines_of project) ≡ length project.models
outlines_count project = length-map project.models default_outline

pub are_fit : (project : Project) → IsFit project → AreFit (outlines_of project)
are_fit project fit = record {
  few = omega (arith, outlines_count project, fit.model_each, fit.names.few);
  within = outlines_within project fit;
}

-- ---- what the font tells

abbrev IsCoordinate : ℤ → Type 0
IsCoordinate z = (negsuc 16383 ≤ℤ z) × (z ≤ℤ pos 16383)

points_within : (contours : List (List Point)) → All IsContourWithin contours → All IsPointWithin (points_in contours)
points_within [] each = All-nil IsPointWithin
points_within (own ∷ contours) each =
    All-append IsPointWithin own (points_in contours) (All-head IsContourWithin own contours each).points_within (points_within contours (All-tail IsContourWithin own contours each))

bounds_within : (points : List Point) → All IsPointWithin points → AreBoundsWithin (bounds_of points)
unfolding bounds_of
bounds_within [] each = record {
  least_x_min = omega (arith, ints);
  greatest_x_min = omega (arith, ints);
  least_y_min = omega (arith, ints);
  greatest_y_min = omega (arith, ints);
  least_x_max = omega (arith, ints);
  greatest_x_max = omega (arith, ints);
  least_y_max = omega (arith, ints);
  greatest_y_max = omega (arith, ints);
}
bounds_within (point ∷ points) each =
    let all : List Point = point ∷ points in
    let are = bounds_law all (λ none. absurd (cc none)) in
    let xs : All IsCoordinate (xs_of all) = All-map IsCoordinate (λ (p : Point). p.x) all (All-weaker IsPointWithin (λ p. IsCoordinate p.x) (λ p own. (own.least_x, own.greatest_x)) all each) in
    let ys : All IsCoordinate (ys_of all) = All-map IsCoordinate (λ (p : Point). p.y) all (All-weaker IsPointWithin (λ p. IsCoordinate p.y) (λ p own. (own.least_y, own.greatest_y)) all each) in
    let bounds = bounds_of all in
    let x_min = All-contains IsCoordinate (xs_of all) bounds.x_min xs are.x_min.there in
    let y_min = All-contains IsCoordinate (ys_of all) bounds.y_min ys are.y_min.there in
    let x_max = All-contains IsCoordinate (xs_of all) bounds.x_max xs are.x_max.there in
    let y_max = All-contains IsCoordinate (ys_of all) bounds.y_max ys are.y_max.there in
    record {
      least_x_min = x_min.0;
      greatest_x_min = x_min.1;
      least_y_min = y_min.0;
      greatest_y_min = y_min.1;
      least_x_max = x_max.0;
      greatest_x_max = x_max.1;
      least_y_max = y_max.0;
      greatest_y_max = y_max.1;
    }

few_contours : (contours : List (List Point)) → All IsContourWithin contours → length contours ≤ sum_by length contours
few_contours [] each = omega arith
few_contours (own ∷ contours) each =
    let more = few_contours contours (All-tail IsContourWithin own contours each) in
    let here = All-head IsContourWithin own contours each in
    omega (arith, sum_by-cons length own contours, here.least)

codes_rise : (from : ℕ) (codes : List (ℕ × ℕ)) → Rise from codes → CodesRise from codes
codes_rise from [] rise = tt
codes_rise from (own ∷ codes) rise = (rise.0, codes_rise (own.0 + 1) codes rise.1)

pub are_facts : (project : Project) → IsFit project → AreFacts (facts_of project)
are_facts project fit =
    let outlines : List Outline = outlines_of project in
    let entries = project.names.entries in
    let within = outlines_within project fit in
    let names : length (names_of entries) ≡ length entries = length-map entries (λ entry. entry.0) in
    let count : length outlines ≡ length (names_of entries) = omega (arith, outlines_count project, fit.model_each, names) in
    record {
      least = omega (arith, names, fit.names.some);
      greatest = omega (arith, names, fit.names.few);
      advance_each = length-map outlines advance_of ∙ count;
      bounds_each = length-map outlines outline_bounds ∙ count;
      lengths_each = length-map outlines lengths_of ∙ count;
      names = All-weaker IsGlyphName IsNameWithin (λ name own. record { least = own.least; greatest = own.greatest }) (names_of entries) fit.names.each;
      advances = All-map IsAdvanceWithin advance_of outlines (All-weaker IsWithinLimits (λ o. IsAdvanceWithin (advance_of o)) (λ o own. record { least = own.least_advance; greatest = own.greatest_advance }) outlines within);
      bounds = All-map AreBoundsWithin outline_bounds outlines (All-weaker IsWithinLimits (λ o. AreBoundsWithin (outline_bounds o)) (λ o own. bounds_within (points_in o.contours) (points_within o.contours own.contours_within)) outlines within);
      lengths = All-map AreLengthsWithin lengths_of outlines (All-weaker IsWithinLimits (λ o. AreLengthsWithin (lengths_of o)) (λ o own. record { points = own.points; contours = few_contours o.contours own.contours_within }) outlines within);
      numbers = fit.numbers;
      codes = codes_rise 0 project.codes fit.codes.characters.rise;
    }

-- ---- regions

pub regions_are : (project : Project) → IsFit project → regions_in project.supports ≡ regions_of (coordinates_of project.sorted)
regions_are project fit = fit.masters.regions

pub support_count : (project : Project) → IsFit project → length project.supports ≡ length project.sorted
support_count project fit =
    omega (arith, length-map project.supports (λ (support : ArrayVec Triple). support.items), ap length (regions_are project fit), regions_count (coordinates_of project.sorted), length-map project.sorted (λ (at : ArrayVec ℤ). at.items))

pub are_writable : (project : Project) → IsFit project → AreWritable (length project.design.axes) project.supports
are_writable project fit =
    let axes = length project.design.axes in
    let supports = project.supports in
    let locations = coordinates_of project.sorted in
    let is = regions_are project fit in
    let lengths = subst (AllByRecursion (λ (region : List Triple). length region ≡ axes)) (sym is) (same_lengths axes locations fit.masters.masters) in
    record {
      some_axes = omega (arith, fit.design.axes.some);
      few_axes = fit.design.axes.few;
      axis_each = All-from_recursion (λ (support : ArrayVec Triple). array_vec_len support ≡ axes) supports (under (λ (support : ArrayVec Triple). support.items) (λ (region : List Triple). length region ≡ axes) supports lengths);
      normalised = subst AreNormalisedRegions (sym is) (regions_normalised locations fit.masters.normalised);
      none_if_ignored = subst AreNoneIfIgnored (sym is) (none_if_ignored locations);
    }

-- ---- rows

advance_fits : (tuple : GlyphTuple) → IsTupleWithin tuple → FitsSigned w16 (delta_advance tuple)
advance_fits tuple own = omega (arith, ints, own.advance.low, own.advance.high)

row_fits : (masters : ℕ) (model : GlyphModel) → IsFitModel masters model → All (FitsSigned w16) (later_advances model)
row_fits masters model own =
    All-map (FitsSigned w16) delta_advance (drop 1 model.tuples)
    (All-weaker IsTupleWithin (λ tuple. FitsSigned w16 (delta_advance tuple)) advance_fits (drop 1 model.tuples) (All-drop IsTupleWithin 1 model.tuples own.variable.tuples_are.within))

row_count : (masters : ℕ) (model : GlyphModel) → IsFitModel masters model → length (later_advances model) ≡ masters - 1
row_count masters model own = omega (arith, length-map (drop 1 model.tuples) delta_advance, length-drop 1 model.tuples, own.one_each)

normalised_each : (supports : List (ArrayVec Triple)) → AreNormalisedRegions (regions_in supports) → All (λ (region : ArrayVec Triple). All IsNormalisedTriple region.items) supports
normalised_each supports each =
    All-from_recursion (λ (region : ArrayVec Triple). All IsNormalisedTriple region.items) supports
    (weaker (λ (region : ArrayVec Triple). AllByRecursion IsNormalisedTriple region.items) (λ region. All IsNormalisedTriple region.items) (λ region own. All-from_recursion IsNormalisedTriple region.items own) supports
    (under (λ (support : ArrayVec Triple). support.items) (AllByRecursion IsNormalisedTriple) supports each))

pub are_rows : (project : Project) → IsFit project → AreRows (length project.design.axes) (drop 1 project.supports) (map later_advances project.models)
are_rows project fit =
    let axes = length project.design.axes in
    let supports = project.supports in
    let masters = length project.sorted in
    let models = project.models in
    let writable = are_writable project fit in
    let later : length (drop 1 supports) ≡ masters - 1 = omega (arith, length-drop 1 supports, support_count project fit) in
    record {
      some_axes = fit.design.axes.some;
      few_axes = fit.design.axes.few;
      axis_each = All-drop (λ (support : ArrayVec Triple). array_vec_len support ≡ axes) 1 supports writable.axis_each;
      normalised = All-drop (λ (region : ArrayVec Triple). All IsNormalisedTriple region.items) 1 supports (normalised_each supports writable.normalised);
      few_regions = omega (arith, later, fit.masters.one_each, fit.design.few_sources);
      one_each = All-map (λ (row : List ℤ). length row ≡ length (drop 1 supports)) later_advances models (All-weaker (IsFitModel masters) (λ model. length (later_advances model) ≡ length (drop 1 supports)) (λ model own. row_count masters model own ∙ sym later) models fit.models);
      words = All-map (All (FitsSigned w16)) later_advances models (All-weaker (IsFitModel masters) (λ model. All (FitsSigned w16) (later_advances model)) (row_fits masters) models fit.models);
      few_rows = omega (arith, length-map models later_advances, fit.model_each, fit.names.few);
    }

pub later_regions_are : (supports : List (ArrayVec Triple)) → regions_in (drop 1 supports) ≡ drop 1 (regions_in supports)
later_regions_are [] = refl
later_regions_are (support ∷ supports) = refl
