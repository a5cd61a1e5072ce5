use Rattle.std.proofs.Common.{◌≡◌, ◌++◌, take}
use Rattle.std.specs.List.{flat_map}
use Rattle.avar_fvar.specs.Layout.{pair_bytes}
use Rattle.avar_fvar.proofs.segment_maps.put_pairs.Given as goal

-- the pairs so far are appended
abbrev pub invariant-loop-from : goal.invariant-loop-from
invariant-loop-from l = l.out.items ≡ l.initial.out.items ++ flat_map pair_bytes (take l.from-index l.pairs)
