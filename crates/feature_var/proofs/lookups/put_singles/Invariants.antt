use Rattle.std.proofs.Common.{◌≡◌, ◌++◌, take}
use Rattle.std.specs.List.{flat_map}
use Rattle.feature_var.specs.Layout.{single_bytes}
use Rattle.feature_var.proofs.lookups.put_singles.Given as goal

-- the single substitutions so far are appended
abbrev pub invariant-loop-pairs : goal.invariant-loop-pairs
invariant-loop-pairs l = l.out.items ≡ l.initial.out.items ++ flat_map single_bytes (take l.pairs-index l.lists)
