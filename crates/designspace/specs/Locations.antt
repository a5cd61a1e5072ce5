-- Where dimensions lead: the normalised location of a source, and the user values of an instance.
use Rattle.std.specs.Prelude.{ℕ, ◌+◌, ◌==◌, ℤ, Bool, List, [], ◌∷◌, reverse, find, Option, Some, None, option_map}
use Rattle.arrayvec.specs.ArrayVec.{ArrayVec}
use Rattle.norm_loc.specs.AxisMaps.{Mapping, backward, design_of, forward}
use Rattle.norm_loc.specs.Normalising.{brought, normalised}
use Rattle.design_axes.specs.declared.axis.Axis.{Axis}
use Rattle.designspace.specs.declared.dimension.AxisValue.{AxisValue}
use Rattle.designspace.specs.declared.dimension.AxisValue.TheVariants.{Design, User}
use Rattle.designspace.specs.declared.dimension.Dimension.{Dimension}

-- of the dimensions of one axis the last counts
abbrev pub is_on : ℕ → Dimension → Bool
is_on axis dimension = dimension.axis == axis

abbrev pub last_on : ℕ → List Dimension → Option AxisValue
last_on axis dimensions = option_map (λ dimension. dimension.value) (find (is_on axis) (reverse dimensions))

abbrev pub to_design : Mapping → AxisValue → ℤ
to_design map (Design v) = v
to_design map (User v) = forward map v

-- a user value is brought between the least and the greatest one
abbrev pub to_user : Mapping → AxisValue → ℤ
to_user map (Design v) = backward map v
to_user map (User v) = brought map.user.min map.user.max v

-- a missing dimension is at the default
unfoldable pub design_value : Mapping → Option AxisValue → ℤ
design_value map None = (design_of map).default
design_value map (Some value) = to_design map value

unfoldable pub user_value : Mapping → Option AxisValue → ℤ
user_value map None = map.user.default
user_value map (Some value) = to_user map value

-- the normalised coordinate on the axis with this number
unfoldable pub coordinate_on : List Dimension → ℕ → Axis → ℤ
coordinate_on dimensions number axis = normalised (design_of axis.map) (design_value axis.map (last_on number dimensions))

-- those on all axes, of which the first has this number
abbrev pub coordinates_from : List Dimension → ℕ → List Axis → List ℤ
coordinates_from dimensions number [] = []
coordinates_from dimensions number (axis ∷ axes) = coordinate_on dimensions number axis ∷ coordinates_from dimensions (number + 1) axes

unfoldable pub location_of : List Dimension → List Axis → ArrayVec ℤ
location_of dimensions axes = record { items = coordinates_from dimensions 0 axes }

abbrev pub user_values_from : List Dimension → ℕ → List Axis → List ℤ
user_values_from dimensions number [] = []
user_values_from dimensions number (axis ∷ axes) = user_value axis.map (last_on number dimensions) ∷ user_values_from dimensions (number + 1) axes
