use Rattle.std.proofs.Common.{◌≡◌, ◌++◌, take}
use Rattle.std.specs.List.{flat_map}
use Rattle.feature_var.specs.Layout.{block_bytes}
use Rattle.feature_var.proofs.variations.put_blocks.Given as goal

-- the blocks so far are appended
abbrev pub invariant-loop-cell : goal.invariant-loop-cell
invariant-loop-cell l = l.out.items ≡ l.initial.out.items ++ flat_map block_bytes (take l.cell-index l.cells)
