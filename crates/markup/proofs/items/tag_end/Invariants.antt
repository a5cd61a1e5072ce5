use Rattle.std.proofs.Common.{◌≡◌, ◌+◌, drop, None}
use Rattle.std.specs.Prelude.{option_map}
use Rattle.markup_rules.specs.Reading.{tag_end}
use Rattle.markup.proofs.items.tag_end.Given as goal

abbrev pub invariant-loop-index : goal.invariant-loop-index
invariant-loop-index l = option_map (λ n. n + l.index) (tag_end l.quote (drop l.index l.bytes)) ≡ tag_end None l.bytes
