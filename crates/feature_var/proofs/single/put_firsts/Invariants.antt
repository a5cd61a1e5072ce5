use Rattle.std.proofs.Common.{◌≡◌, ◌++◌, take}
use Rattle.std.specs.List.{flat_map}
use Rattle.feature_var.specs.Layout.{word_bytes}
use Rattle.feature_var.proofs.single.put_firsts.Given as goal

-- the first glyphs so far are appended
abbrev pub invariant-loop-first : goal.invariant-loop-first
invariant-loop-first l = l.out.items ≡ l.initial.out.items ++ flat_map (λ pair. word_bytes pair.0) (take l.first-index l.pairs)
