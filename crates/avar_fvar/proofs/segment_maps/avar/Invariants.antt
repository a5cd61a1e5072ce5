use Rattle.std.proofs.Common.{◌≡◌, ◌++◌, map, take}
use Rattle.std.specs.Prelude.{All}
use Rattle.std.specs.List.{flat_map}
use Rattle.norm_loc.specs.PairBounds.{AreSegments}
use Rattle.avar_fvar.specs.Layout.{segment_map_bytes}
use Rattle.avar_fvar.specs.SegmentMaps.{pairs_of}
use Rattle.avar_fvar.proofs.segment_maps.avar.Given as goal

-- the segment maps so far are appended
abbrev pub invariant-loop-axis : goal.invariant-loop-axis
invariant-loop-axis l = record {
  written : l.bytes.items ≡ l.initial.bytes.items ++ flat_map segment_map_bytes (map pairs_of (take l.axis-index l.axes));
  segments : All AreSegments (map pairs_of (take l.axis-index l.axes));
}
