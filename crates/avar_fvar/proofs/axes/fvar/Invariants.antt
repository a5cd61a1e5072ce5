use Rattle.std.proofs.Common.{◌≡◌, ◌++◌, map, take}
use Rattle.std.specs.Prelude.{All}
use Rattle.std.specs.List.{flat_map}
use Rattle.avar_fvar.specs.Axes.{axis_of}
use Rattle.avar_fvar.specs.Layout.{axis_bytes, instance_bytes}
use Rattle.avar_fvar.specs.Ranges.{FitsAxis, FitsInstance}
use Rattle.avar_fvar.proofs.axes.fvar.Given as goal

-- the axes so far are appended
abbrev pub invariant-loop-axis : goal.invariant-loop-axis
invariant-loop-axis l = record {
  written : l.bytes.items ≡ l.initial.bytes.items ++ flat_map axis_bytes (map axis_of (take l.axis-index l.axes));
  fit : All FitsAxis (map axis_of (take l.axis-index l.axes));
}

-- the instances so far are appended
abbrev pub invariant-loop-instance : goal.invariant-loop-instance
invariant-loop-instance l = record {
  written : l.bytes.items ≡ l.initial.bytes.items ++ flat_map instance_bytes (take l.instance-index l.instances);
  fit : All FitsInstance (take l.instance-index l.instances);
}
