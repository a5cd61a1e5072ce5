-- The dimensions of a location (Designspace, "location" and "dimension"), or the first fault.
use Rattle.std.specs.Prelude.{ℕ, ◌+◌, ℤ, pos, List, [], ◌∷◌, codes, Option, Some, None, Result, Ok, Err, if◌then◌else◌}
use Rattle.std.specs.Str.{bytes_eq}
use Rattle.markup_rules.specs.Tree.{Tree, at_of, attribute_of}
use Rattle.basics.specs.Reading.{◌>>=◌, each, spot_of}
use Rattle.basics.specs.declared.kinds.Kind.TheVariants.{Anisotropic, MissingAttribute, UnknownAxis}
use Rattle.basics.specs.declared.fault.Spot.{Spot}
use Rattle.attributes.specs.Attributes.{attribute_fault, fault, needed, optional_decimal}
use Rattle.design_axes.specs.Elements.{first_named, named}
use Rattle.design_axes.specs.declared.axis.Axis.{Axis}
use Rattle.designspace.specs.declared.dimension.AxisValue.{AxisValue}
use Rattle.designspace.specs.declared.dimension.AxisValue.TheVariants.{Design, User}
use Rattle.designspace.specs.declared.dimension.Dimension.{Dimension}

-- ---- the axis that is spoken of

-- the axis with a name and its number, where the first of the list has this number
abbrev pub axis_from : ℕ → List ℕ → List Axis → Option (ℕ × Axis)
axis_from number name [] = None
axis_from number name (axis ∷ axes) = if bytes_eq axis.name name then Some (number, axis) else axis_from (number + 1) name axes

abbrev pub unknown_axis : {A : Type 0} → List ℕ → Tree → Result A Spot
unknown_axis name tree = Err (spot_of UnknownAxis name (at_of tree) (pos 0))

-- ---- the value

abbrev pub isotropic : Tree → Option (List ℕ) → Result (Unit {0}) Spot
isotropic tree None = Ok tt
isotropic tree (Some text) = fault Anisotropic tree

abbrev pub user_or_fault : Tree → Option ℤ → Result AxisValue Spot
user_or_fault tree None = attribute_fault MissingAttribute (codes "xvalue") tree
user_or_fault tree (Some v) = Ok (User v)

unfoldable pub user_value_in : Tree → Result AxisValue Spot
user_value_in tree = optional_decimal (codes "uservalue") tree >>= λ v. user_or_fault tree v

-- beside a design value no user value is read
abbrev pub value_by : Tree → Option ℤ → Result AxisValue Spot
value_by tree None = user_value_in tree
value_by tree (Some v) = Ok (Design v)

unfoldable pub value_of : Tree → Result AxisValue Spot
value_of tree = optional_decimal (codes "xvalue") tree >>= λ v. value_by tree v

-- ---- dimensions

unfoldable pub dimension_on : ℕ → Tree → Result Dimension Spot
dimension_on axis tree = do
  straight ← isotropic tree (attribute_of (codes "yvalue") tree)
  value ← value_of tree
  Ok (record { axis = axis; value = value })

abbrev pub dimension_by : Tree → List ℕ → Option (ℕ × Axis) → Result Dimension Spot
dimension_by tree name None = unknown_axis name tree
dimension_by tree name (Some found) = dimension_on found.0 tree

unfoldable pub dimension_of : List Axis → Tree → Result Dimension Spot
dimension_of axes tree = needed (codes "name") tree >>= λ name. dimension_by tree name (axis_from 0 name axes)

abbrev pub dimensions_by : List Axis → Option Tree → Result (List Dimension) Spot
dimensions_by axes None = Ok []
dimensions_by axes (Some tree) = each (dimension_of axes) (named (codes "dimension") tree)

-- those of the first `location` of a source or an instance, none where it is absent
unfoldable pub dimensions_of : List Axis → Tree → Result (List Dimension) Spot
dimensions_of axes tree = dimensions_by axes (first_named (codes "location") tree)
