-- The axes and the named instances of the font of a project.
use Rattle.std.specs.Prelude.{ℕ, ◌+◌, List, [], ◌∷◌, length, map}
use Rattle.avar_fvar.specs.Axes.{FontAxes, axis_of}
use Rattle.avar_fvar.specs.declared.records.AxisRecord.{AxisRecord}
use Rattle.avar_fvar.specs.declared.records.InstanceRecord.{InstanceRecord}
use Rattle.design_axes.specs.declared.axis.Axis.{Axis}
use Rattle.designspace.specs.declared.document.Designspace.{Designspace}
use Rattle.designspace.specs.declared.instance.Instance.{Instance}
use Rattle.font_tables.specs.FontNames.{FIRST}

-- the ids of their names run on from the first
abbrev pub axes_from : ℕ → List Axis → List AxisRecord
axes_from id [] = []
axes_from id (axis ∷ axes) = record { tag = axis.tag; map = axis.map; hidden = axis.hidden; name_id = id } ∷ axes_from (id + 1) axes

abbrev pub instances_from : ℕ → List Instance → List InstanceRecord
instances_from id [] = []
instances_from id (instance ∷ instances) = record { name_id = id; user = instance.user } ∷ instances_from (id + 1) instances

abbrev pub axis_records : Designspace → List AxisRecord
axis_records design = axes_from FIRST design.axes

abbrev pub instance_records : Designspace → List InstanceRecord
instance_records design = instances_from (FIRST + length design.axes) design.instances

-- what the table of the axes has
abbrev pub font_axes : Designspace → FontAxes
font_axes design = record { axes = map axis_of (axis_records design); instances = instance_records design }
