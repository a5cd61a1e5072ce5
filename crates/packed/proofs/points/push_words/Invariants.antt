use Rattle.std.proofs.Common.{◌≡◌, ◌++◌, take}
use Rattle.std.specs.List.{flat_map}
use Rattle.variation_rules.specs.Fields.{word}
use Rattle.packed.proofs.points.push_words.Given as goal

abbrev pub invariant-loop-difference : goal.invariant-loop-difference
invariant-loop-difference l = l.bytes.items ≡ l.initial.bytes.items ++ flat_map word (take l.difference-index l.differences)
