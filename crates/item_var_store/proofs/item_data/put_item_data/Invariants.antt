use Rattle.std.proofs.Common.{◌≡◌, ◌++◌, take}
use Rattle.std.specs.List.{flat_map}
use Rattle.item_var_store.specs.Layout.{row_bytes}
use Rattle.item_var_store.proofs.item_data.put_item_data.Given as goal

-- the rows so far are appended
abbrev pub invariant-loop-row : goal.invariant-loop-row
invariant-loop-row l = l.out.items ≡ l.initial.out.items ++ flat_map row_bytes (take l.row-index l.rows)
