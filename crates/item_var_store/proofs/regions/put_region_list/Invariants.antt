use Rattle.std.proofs.Common.{◌≡◌, ◌++◌, take}
use Rattle.std.specs.List.{flat_map}
use Rattle.region_support.specs.Coordinates.{regions_in}
use Rattle.item_var_store.specs.Layout.{region_bytes}
use Rattle.item_var_store.proofs.regions.put_region_list.Given as goal

-- the regions so far are appended
abbrev pub invariant-loop-region : goal.invariant-loop-region
invariant-loop-region l = l.out.items ≡ l.initial.out.items ++ flat_map region_bytes (regions_in (take l.region-index l.regions))
