use Rattle.std.proofs.Common.{◌≡◌, ◌++◌, take}
use Rattle.item_var_store.specs.Layout.{row_bytes}
use Rattle.item_var_store.proofs.item_data.put_row.Given as goal

-- the deltas so far are appended
abbrev pub invariant-loop-delta : goal.invariant-loop-delta
invariant-loop-delta l = l.out.items ≡ l.initial.out.items ++ row_bytes (take l.delta-index l.row)
