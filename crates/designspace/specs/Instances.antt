-- The named instances of a design space (Designspace, "instance"), or the first fault.
use Rattle.std.specs.Prelude.{ℕ, Bool, List, ◌++◌, length, filter, codes, decimal, Option, Some, None, is_none, Result, Ok}
use Rattle.markup_rules.specs.Tree.{Tree, attribute_of}
use Rattle.basics.specs.Reading.{◌>>=◌, each_numbered}
use Rattle.basics.specs.declared.kinds.Kind.TheVariants.{TooManyInstances}
use Rattle.basics.specs.declared.fault.Spot.{Spot}
use Rattle.design_axes.specs.Names.{short_name}
use Rattle.design_axes.specs.declared.axis.Axis.{Axis}
use Rattle.designspace.specs.Dimensions.{dimensions_of}
use Rattle.designspace.specs.Locations.{user_values_from}
use Rattle.designspace.specs.Parts.{few, listed}
use Rattle.designspace.specs.declared.instance.Instance.{Instance}

-- ---- the name: `stylename`, else `name`, else a made one

abbrev pub own_name : ℕ → Tree → Option (List ℕ) → Result (List ℕ) Spot
own_name number tree None = Ok (codes "Instance " ++ decimal number)
own_name number tree (Some name) = short_name (codes "name") tree name

abbrev pub name_by : ℕ → Tree → Option (List ℕ) → Result (List ℕ) Spot
name_by number tree None = own_name number tree (attribute_of (codes "name") tree)
name_by number tree (Some name) = short_name (codes "stylename") tree name

unfoldable pub name_of : ℕ → Tree → Result (List ℕ) Spot
name_of number tree = name_by number tree (attribute_of (codes "stylename") tree)

-- ---- instances, counted from 1

unfoldable pub instance_of : List Axis → ℕ → Tree → Result Instance Spot
instance_of axes number tree = do
  name ← name_of number tree
  dimensions ← dimensions_of axes tree
  Ok (record { name = name; user = user_values_from dimensions 0 axes })

unfoldable pub instances_in : List Axis → List Tree → Result (List Instance) Spot
instances_in axes trees = few TooManyInstances 0 256 (length trees) >>= λ _. each_numbered (instance_of axes) 1 trees

-- an instance with an attribute `location` lies where a label of that name tells, and is passed over
abbrev pub is_own : Tree → Bool
is_own tree = is_none (attribute_of (codes "location") tree)

-- those of the first `instances`, none where it is absent
unfoldable pub instances_of : List Axis → Tree → Result (List Instance) Spot
instances_of axes designspace = instances_in axes (filter is_own (listed (codes "instances") (codes "instance") designspace))
