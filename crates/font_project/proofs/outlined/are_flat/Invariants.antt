use Rattle.std.proofs.Common.{◌≡◌, drop, slice_get}
use Rattle.basics.specs.Reading.{all_pass}
use Rattle.font_project.specs.Outlining.{are_flat, is_flat}
use Rattle.font_project.proofs.outlined.are_flat.Given as goal

abbrev pub invariant-loop-number : goal.invariant-loop-number
invariant-loop-number l = are_flat l.sources l.numbers ≡ all_pass (λ _ number. is_flat (slice_get l.sources number)) l.number-index (drop l.number-index l.numbers)
