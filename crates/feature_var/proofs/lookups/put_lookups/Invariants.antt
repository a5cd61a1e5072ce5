use Rattle.std.proofs.Common.{◌≡◌, ◌+◌, ◌*◌, ◌++◌, ◌≤◌, length, drop}
use Rattle.feature_var.specs.Layout.{lookups_from}
use Rattle.feature_var.proofs.lookups.put_lookups.Given as goal

-- the lookups so far, and those that are left with their distance
abbrev pub invariant-loop-pairs : goal.invariant-loop-pairs
invariant-loop-pairs l = record {
  least : 16 * length l.lists ≤ l.distance + 16 * l.pairs-index;
  most : l.distance ≤ 16 * length l.lists + 16394 * l.pairs-index;
  out : l.out.items ++ lookups_from l.distance (drop l.pairs-index l.lists) ≡ l.initial.out.items ++ lookups_from (16 * length l.lists) l.lists;
}
