use Rattle.std.proofs.Common.{◌≡◌, ◌≤◌, drop, slice_get}
use Rattle.basics.specs.Reading.{in_turn}
use Rattle.font_project.specs.Sizes.{size_of, with_source}
use Rattle.font_project.proofs.sizes.size_of.Given as goal

abbrev pub invariant-loop-number : goal.invariant-loop-number
invariant-loop-number l = record {
  sum : size_of l.sources l.numbers ≡ in_turn (λ sum number. with_source sum (slice_get l.sources number)) l.sum (drop l.number-index l.numbers);
  few : l.sum ≤ 16777216;
}
