use Rattle.std.proofs.Common.{◌≡◌, ◌+◌, ◌-◌, ◌*◌, ◌++◌}
use Rattle.std.specs.List.{flat_map}
use Rattle.feature_var.specs.Layout.{condition_offsets, long_bytes, places_from}
use Rattle.feature_var.proofs.conditions.put_condition_offsets.Given as goal

-- the offsets so far, and those from the next place on
abbrev pub invariant-loop-number : goal.invariant-loop-number
invariant-loop-number l =
    l.out.items ++ flat_map long_bytes (places_from 8 (2 + 4 * l.count + 8 * l.number) (l.count - l.number)) ≡ l.initial.out.items ++ flat_map long_bytes (condition_offsets l.count)
