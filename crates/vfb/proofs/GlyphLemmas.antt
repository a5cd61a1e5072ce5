-- Making the variation data of masters.
use Rattle.std.proofs.Common.{◌≡◌, ℕ, ℤ, ◌+◌, Bool, Some, List, [], ◌∷◌, ◌++◌, append-nil, length, Err, sym, ◌∙◌, ap, subst, arith, All}
use Rattle.std.proofs.lemmas.List.{length-map}
use Rattle.arrayvec.specs.ArrayVec.{ArrayVec, array_vec_len}
use Rattle.variation_rules.specs.declared.region.Triple.{Triple}
use Rattle.variation_rules.specs.declared.tuple.TupleVariation.{TupleVariation}
use Rattle.variation_rules.specs.TupleVariations.{MeansTuples}
use Rattle.region_support.specs.MasterOrder.{axes_of}
use Rattle.region_support.specs.Coordinates.{coordinates_of, regions_in}
use Rattle.region_support.specs.Regions.{AreNormalisedLocations, AreNormalisedRegions, AreNoneIfIgnored}
use Rattle.region_support.proofs.RegionLaw.{regions_count}
use Rattle.delta_solve.specs.Deltas.{whole_rows}
use Rattle.delta_solve.specs.GlyphModels.{IsModelOf, IsTupleWithin, delta_fault}
use Rattle.delta_solve.specs.declared.model.DeltaStop.TheVariants.{DeltaRange}
use Rattle.delta_solve.specs.declared.model.GlyphModel.{GlyphModel}
use Rattle.gvar_table.specs.Layout.{IsWritten}
use Rattle.glyph_variations.specs.Conditions.{AreWritable, IsVariable, point_count}
use Rattle.glyph_variations.specs.Variations.{AreVariations, explicit_points, outline_points}
use Rattle.glyph_variations.proofs.DrawsLemmas.{drawing_law}
use Rattle.glyph_variations.proofs.ModelLemmas.{is_variable, points_of_default}
use Rattle.vfb.specs.Glyph.{IsDataOf, IsDrawnBy, regions, outline_count, axis_count}
use Rattle.outside.specs.Files.{Files, content}
use Rattle.vfb.specs.Product.{File, written}
use Rattle.vfb.proofs.FileLemmas.{content-put}
use Rattle.vfb.specs.Lines.{counts_line}
use Rattle.vfb.specs.Masters.{Masters, AreGathered, fitting, masters_or, range_fault}

-- there is a region for each master
pub one_region_each : (supports : List (ArrayVec Triple)) (locations : List (ArrayVec ℤ)) → regions_in supports ≡ regions (record { name = []; locations = coordinates_of locations; outlines = [] }) → length supports ≡ length locations
one_region_each supports locations same =
    sym (length-map supports (λ (support : ArrayVec Triple). support.items)) ∙ (ap length same ∙ (regions_count (coordinates_of locations) ∙ length-map locations (λ (at : ArrayVec ℤ). at.items)))

-- a delta that doesn't fit is the masters' fault
pub fitting_fault : (masters : Masters) (found : List (List Triple)) (master point : ℕ) (y : Bool) (value : ℤ) → found ≡ regions masters
    → delta_fault found masters.locations masters.outlines ≡ Some (DeltaRange master point y value) → fitting masters ≡ Err (range_fault masters.name master point y value)
fitting_fault masters found master point y value same is =
    ap (λ fault. masters_or fault masters) (ap (λ regions. delta_fault regions masters.locations masters.outlines) (sym same) ∙ is)

module _ (masters : Masters) (gathered : AreGathered masters) (model : GlyphModel) (is : IsModelOf (regions masters) masters.locations masters.outlines model) where
  -- the default's tuple has its points
  pub point_count_is : point_count model.tuples ≡ outline_count masters
  point_count_is = points_of_default (whole_rows (regions masters) masters.locations) masters.outlines model.tuples is.tuples

  -- tuple variations can be made of the model
  pub variable : All IsTupleWithin model.tuples → IsVariable model.lengths model.tuples
  variable within = is_variable (whole_rows (regions masters) masters.locations) masters.outlines model is within gathered.within (omega (arith, gathered.few, gathered.one_each))

  -- the data are made of the masters
  pub is_made : (tuples : List TupleVariation) (bytes : List ℕ) (count explicit points : ℕ) → AreVariations model.lengths (regions masters) model.tuples tuples
      → IsWritten (point_count model.tuples + 4) bytes tuples → count ≡ length tuples → explicit ≡ explicit_points (point_count model.tuples) tuples → points ≡ outline_points (point_count model.tuples) tuples
      → IsDataOf masters bytes (counts_line count explicit points)
  is_made tuples bytes count explicit points are written counted named all = record {
    model = model;
    tuples = tuples;
    is_model = is;
    are_its = are;
    written = subst (λ n. IsWritten (n + 4) bytes tuples) point_count_is written;
    counted = ap (λ n. counts_line n explicit points) counted ∙ (ap (λ n. counts_line (length tuples) n points) (named ∙ ap (λ n. explicit_points n tuples) point_count_is)
        ∙ ap (λ n. counts_line (length tuples) (explicit_points (outline_count masters) tuples) n) (all ∙ ap (λ n. outline_points n tuples) point_count_is));
  }

  -- and draw what they draw
  pub is_drawn : (tuples : List TupleVariation) (bytes : List ℕ) → All IsTupleWithin model.tuples → AreVariations model.lengths (regions masters) model.tuples tuples
      → MeansTuples (axis_count masters) (point_count model.tuples + 4) [] bytes tuples → IsDrawnBy masters bytes
  is_drawn tuples bytes within are means = record {
    tuples = tuples;
    means = subst (λ n. MeansTuples (axis_count masters) (n + 4) [] bytes tuples) point_count_is means;
    draws = drawing_law (axes_of masters.locations) masters.locations masters.outlines model tuples gathered.ordered gathered.within within is are;
  }

-- the regions of the masters can be written
pub are_writable : (masters : Masters) (supports : List (ArrayVec Triple)) → AreGathered masters → All (λ (support : ArrayVec Triple). array_vec_len support ≡ axis_count masters) supports
    → (AreNormalisedLocations masters.locations → AreNormalisedRegions (regions_in supports)) → AreNoneIfIgnored (regions_in supports) → AreWritable (axis_count masters) supports
are_writable masters supports gathered axis_each normalised none = record {
  some_axes = omega (arith, gathered.some_axes);
  few_axes = gathered.few_axes;
  axis_each = axis_each;
  normalised = normalised gathered.normalised;
  none_if_ignored = none;
}

-- what the bytes draw is what the path draws to which they are written
pub drawn_in_file : (masters : Masters) (out bytes : List ℕ) (files : List File) (old : Files) → files ≡ record { path = out; pieces = bytes ∷ [] } ∷ [] → IsDrawnBy masters bytes → IsDrawnBy masters (content (written files old) out)
drawn_in_file masters out bytes files old is drawn =
    subst (λ files. IsDrawnBy masters (content (written files old) out)) (sym is)
    (subst (IsDrawnBy masters) (sym (content-put old out (bytes ++ []) ∙ append-nil bytes)) drawn)
