use Rattle.std.proofs.Common.{◌≡◌, ◌++◌, map, take}
use Rattle.std.specs.List.{flat_map}
use Rattle.cmap_name.specs.CharacterLayout.{item_of, word}
use Rattle.cmap_name.proofs.format_4.put_array.Given as goal

-- the items so far are appended
abbrev pub invariant-loop-segment : goal.invariant-loop-segment
invariant-loop-segment l = l.out.items ≡ l.initial.out.items ++ flat_map word (map (item_of l.array) (take l.segment-index l.segments))
