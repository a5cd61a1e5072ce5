use Rattle.std.proofs.Common.{◌≡◌, ◌++◌, take}
use Rattle.item_var_store.specs.Layout.{region_bytes}
use Rattle.item_var_store.proofs.regions.put_region.Given as goal

-- the axes so far are appended
abbrev pub invariant-loop-triple : goal.invariant-loop-triple
invariant-loop-triple l = l.out.items ≡ l.initial.out.items ++ region_bytes (take l.triple-index l.region)
