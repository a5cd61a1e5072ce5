use Rattle.std.proofs.Common.{◌≡◌, ◌++◌, take}
use Rattle.std.specs.List.{flat_map}
use Rattle.cmap_name.specs.CharacterLayout.{group_bytes}
use Rattle.cmap_name.proofs.format_12.put_format_12.Given as goal

-- the groups so far are appended
abbrev pub invariant-loop-group : goal.invariant-loop-group
invariant-loop-group l = l.out.items ≡ l.initial.out.items ++ flat_map group_bytes (take l.group-index l.groups)
