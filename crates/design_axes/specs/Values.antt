-- The values of an axis and its map (Designspace, "axis" and "map"), or the first fault.
use Rattle.std.specs.Prelude.{ℕ, ℤ, int_le, ◌&&◌, List, codes, Option, Some, None, Result, Ok, if◌then◌else◌}
use Rattle.markup_rules.specs.Tree.{Tree}
use Rattle.basics.specs.Reading.{◌>>=◌, each}
use Rattle.basics.specs.declared.kinds.Kind.TheVariants as kind
use Rattle.basics.specs.declared.fault.Spot.{Spot}
use Rattle.attributes.specs.Attributes.{decimal}
use Rattle.norm_loc.specs.AxisMaps.{Mapping}
use Rattle.norm_loc.specs.MapFaults.{fault_of}
use Rattle.norm_loc.specs.Normalising.{Limits}
use Rattle.norm_loc.specs.declared.stop.MapStop.{MapStop}
use Rattle.norm_loc.specs.declared.stop.MapStop.TheVariants.{MapOrder, MapRange, MapCollapse, NoMemory}
use Rattle.design_axes.specs.Elements.{named}
use Rattle.design_axes.specs.Spots.{axis_fault}

-- the least value, the default and the greatest, where they rise weakly
abbrev pub rising : ℕ → Limits → Result Limits Spot
rising axis limits =
    if int_le limits.min limits.default && int_le limits.default limits.max then Ok limits else axis_fault kind.AxisOrder axis 0

unfoldable pub user_limits : ℕ → Tree → Result Limits Spot
user_limits axis tree = do
  min ← decimal (codes "minimum") tree
  default ← decimal (codes "default") tree
  max ← decimal (codes "maximum") tree
  rising axis (record { min = min; default = default; max = max })

-- a node of the map: a user value and its design value
unfoldable pub node_of : Tree → Result (ℤ × ℤ) Spot
node_of tree = do
  input ← decimal (codes "input") tree
  output ← decimal (codes "output") tree
  Ok (input, output)

unfoldable pub nodes_of : Tree → Result (List (ℤ × ℤ)) Spot
nodes_of tree = each node_of (named (codes "map") tree)

-- the map where it has no fault; want of memory is never one
abbrev pub mapping_or_fault : ℕ → Mapping → Option MapStop → Result Mapping Spot
mapping_or_fault axis mapping None = Ok mapping
mapping_or_fault axis mapping (Some (MapOrder node)) = axis_fault kind.MapOrder axis node
mapping_or_fault axis mapping (Some MapRange) = axis_fault kind.MapRange axis 0
mapping_or_fault axis mapping (Some (MapCollapse node)) = axis_fault kind.MapCollapse axis node
mapping_or_fault axis mapping (Some NoMemory) = Ok mapping

unfoldable pub faultless : ℕ → Mapping → Result Mapping Spot
faultless axis mapping = mapping_or_fault axis mapping (fault_of mapping)

unfoldable pub mapping_of : ℕ → Limits → Tree → Result Mapping Spot
mapping_of axis user tree = nodes_of tree >>= λ nodes. faultless axis (record { user = user; nodes = nodes })
