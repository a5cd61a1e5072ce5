use Rattle.std.proofs.Common.{◌≡◌, ◌++◌, take}
use Rattle.std.specs.List.{flat_map}
use Rattle.feature_var.specs.Layout.{word_bytes}
use Rattle.feature_var.proofs.single.put_seconds.Given as goal

-- the second glyphs so far are appended
abbrev pub invariant-loop-second : goal.invariant-loop-second
invariant-loop-second l = l.out.items ≡ l.initial.out.items ++ flat_map (λ pair. word_bytes pair.1) (take l.second-index l.pairs)
