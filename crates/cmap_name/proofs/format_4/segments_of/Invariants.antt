use Rattle.std.proofs.Common.{◌≡◌, map, take}
use Rattle.cmap_name.specs.CharacterLayout.{segment_of}
use Rattle.cmap_name.proofs.format_4.segments_of.Given as goal

-- the segments of the groups so far
abbrev pub invariant-loop-group : goal.invariant-loop-group
invariant-loop-group l = l.segments.items ≡ map segment_of (take l.group-index l.groups)
