use Rattle.std.proofs.Common.{◌≡◌, ◌++◌, take}
use Rattle.std.specs.List.{flat_map}
use Rattle.cmap_name.specs.NameLayout.{text_bytes}
use Rattle.cmap_name.proofs.names.name.Given as goal

-- the texts so far are appended
abbrev pub invariant-loop-text : goal.invariant-loop-text
invariant-loop-text l = l.bytes.items ≡ l.initial.bytes.items ++ flat_map (λ own. text_bytes own.1) (take l.text-index l.names)
