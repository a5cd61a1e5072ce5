-- Whether two classes of runs are the same.
use Rattle.std.specs.Prelude.{Bool, true, false}
use Rattle.variation_rules.specs.declared.runs.DeltaClass.{DeltaClass}
use Rattle.variation_rules.specs.declared.runs.DeltaClass.TheVariants as delta
use Rattle.variation_rules.specs.declared.runs.PointClass.{PointClass}
use Rattle.variation_rules.specs.declared.runs.PointClass.TheVariants as point

abbrev pub same_delta_class : DeltaClass → DeltaClass → Bool
same_delta_class delta.Zeros delta.Zeros = true
same_delta_class delta.Bytes delta.Bytes = true
same_delta_class delta.Words delta.Words = true
same_delta_class _ _ = false

abbrev pub same_point_class : PointClass → PointClass → Bool
same_point_class point.Bytes point.Bytes = true
same_point_class point.Words point.Words = true
same_point_class _ _ = false
