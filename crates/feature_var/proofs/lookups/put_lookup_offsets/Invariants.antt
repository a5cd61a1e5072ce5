use Rattle.std.proofs.Common.{◌≡◌, ◌+◌, ◌-◌, ◌*◌, ◌++◌}
use Rattle.std.specs.List.{flat_map}
use Rattle.feature_var.specs.Layout.{lookup_offsets, places_from, word_bytes}
use Rattle.feature_var.proofs.lookups.put_lookup_offsets.Given as goal

-- the offsets so far, and those from the next place on
abbrev pub invariant-loop-number : goal.invariant-loop-number
invariant-loop-number l =
    l.out.items ++ flat_map word_bytes (places_from 16 (2 + 2 * l.count + 16 * l.number) (l.count - l.number)) ≡ l.initial.out.items ++ flat_map word_bytes (lookup_offsets l.count)
