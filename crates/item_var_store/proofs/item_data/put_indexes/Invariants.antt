use Rattle.std.proofs.Common.{◌≡◌, ◌++◌}
use Rattle.std.specs.List.{flat_map}
use Rattle.variation_rules.specs.PackedPoints.{count_from}
use Rattle.item_var_store.specs.Layout.{index_bytes}
use Rattle.item_var_store.proofs.item_data.put_indexes.Given as goal

-- the indexes so far are appended
abbrev pub invariant-loop-index : goal.invariant-loop-index
invariant-loop-index l = l.out.items ≡ l.initial.out.items ++ flat_map index_bytes (count_from l.index 0)
