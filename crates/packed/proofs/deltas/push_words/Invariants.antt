use Rattle.std.proofs.Common.{◌≡◌, ◌++◌, take}
use Rattle.std.specs.List.{flat_map}
use Rattle.variation_rules.specs.Fields.{signed_word}
use Rattle.packed.proofs.deltas.push_words.Given as goal

abbrev pub invariant-loop-value : goal.invariant-loop-value
invariant-loop-value l = l.bytes.items ≡ l.initial.bytes.items ++ flat_map signed_word (take l.value-index l.values)
