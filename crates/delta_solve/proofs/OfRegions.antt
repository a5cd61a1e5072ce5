-- What is made by a table's rows is made of the regions and locations that the table was made for.
use Rattle.std.proofs.Common.{◌≡◌, ℤ, List, length, ◌∙◌}
use Rattle.glif.specs.declared.shape.Outline.{Outline}
use Rattle.variation_rules.specs.declared.region.Triple.{Triple}
use Rattle.delta_solve.specs.Deltas.{rows_of, whole_rows}
use Rattle.delta_solve.specs.GlyphModels.{IsModelBy, IsModelOf, fault_by, delta_fault}
use Rattle.delta_solve.specs.declared.model.GlyphModel.{GlyphModel}
use Rattle.delta_solve.proofs.Columns.{same_tuples, same_fault}
use Rattle.delta_solve.proofs.NumberLemmas.{of_regions}

pub fault_of_regions : (rows : List (List ℤ)) (outlines : List Outline) (regions : List (List Triple)) (locations : List (List ℤ)) → length outlines ≡ length rows → rows ≡ rows_of regions locations → fault_by rows outlines ≡ delta_fault regions locations outlines
fault_of_regions rows outlines regions locations one_each is =
    same_fault rows (whole_rows regions locations) outlines (λ values count. of_regions rows values regions locations (count ∙ one_each) is)

pub model_of_regions : (rows : List (List ℤ)) (outlines : List Outline) (model : GlyphModel) (regions : List (List Triple)) (locations : List (List ℤ)) → length outlines ≡ length rows → rows ≡ rows_of regions locations → IsModelBy rows outlines model → IsModelOf regions locations outlines model
model_of_regions rows outlines model regions locations one_each is made = record {
  lengths = made.lengths;
  on = made.on;
  tuples = same_tuples rows (whole_rows regions locations) outlines model.tuples (λ values count. of_regions rows values regions locations (count ∙ one_each) is) made.tuples;
}
