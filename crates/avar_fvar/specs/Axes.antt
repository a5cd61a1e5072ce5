-- What the table of the axes means (OpenType, "fvar", version 1.0). User values are raw numbers with 16 binary places.
use Rattle.std.specs.Prelude.{ℕ, ◌+◌, ◌*◌, ◌%◌, Bool, ◌&&◌, List, drop, Option, Some, None, if◌then◌else◌, nat_eq}
use Rattle.basics.specs.Optional.{◌>>=◌}
use Rattle.be_bytes.specs.Reading.{int32, records, tag, uint16}
use Rattle.norm_loc.specs.Normalising.{Limits}
use Rattle.avar_fvar.specs.declared.records.AxisRecord.{AxisRecord}
use Rattle.avar_fvar.specs.declared.records.InstanceRecord.{InstanceRecord}

-- an axis, as the table has it
pub record Axis : Type 0 where
  pub tag : List ℕ
  pub user : Limits
  pub hidden : Bool
  pub name_id : ℕ

-- all axes and all named instances, in their order
pub record FontAxes : Type 0 where
  pub axes : List Axis
  pub instances : List InstanceRecord

-- an axis by its record; of the flags, 0x0001 hides the axis
abbrev pub axis_in : List ℕ → Option Axis
axis_in bytes = do
  letters ← tag bytes
  min ← int32 (drop 4 bytes)
  default ← int32 (drop 8 bytes)
  max ← int32 (drop 12 bytes)
  flags ← uint16 (drop 16 bytes)
  name_id ← uint16 (drop 18 bytes)
  Some (record { tag = letters; user = record { min = min; default = default; max = max }; hidden = nat_eq (flags % 2) 1; name_id = name_id })

-- an instance by its record, with one coordinate an axis; its flags are reserved
abbrev pub instance_in : ℕ → List ℕ → Option InstanceRecord
instance_in axes bytes = do
  name_id ← uint16 bytes
  user ← records int32 4 axes (drop 4 bytes)
  Some (record { name_id = name_id; user = user })

-- The axes stand from axesArrayOffset on, axisCount records of axisSize bytes, and after them the instances,
-- instanceCount records of instanceSize bytes.
abbrev pub axes_in : List ℕ → Option FontAxes
axes_in bytes = do
  major ← uint16 bytes
  minor ← uint16 (drop 2 bytes)
  offset ← uint16 (drop 4 bytes)
  axis_count ← uint16 (drop 8 bytes)
  axis_size ← uint16 (drop 10 bytes)
  instance_count ← uint16 (drop 12 bytes)
  instance_size ← uint16 (drop 14 bytes)
  axes ← records axis_in axis_size axis_count (drop offset bytes)
  instances ← records (instance_in axis_count) instance_size instance_count (drop (offset + axis_size * axis_count) bytes)
  if nat_eq major 1 && nat_eq minor 0 then Some (record { axes = axes; instances = instances }) else None

-- what the table has of an axis: of its map the user span alone
abbrev pub axis_of : AxisRecord → Axis
axis_of axis = record { tag = axis.tag; user = axis.map.user; hidden = axis.hidden; name_id = axis.name_id }
