use Rattle.std.proofs.Common.{◌≡◌, drop, slice_get}
use Rattle.basics.specs.Reading.{all_pass}
use Rattle.font_project.specs.Resolving.{are_resolved, is_resolved}
use Rattle.font_project.proofs.resolving.are_resolved.Given as goal

abbrev pub invariant-loop-number : goal.invariant-loop-number
invariant-loop-number l = are_resolved l.sources l.numbers ≡ all_pass (λ _ number. is_resolved (slice_get l.sources number)) l.number-index (drop l.number-index l.numbers)
