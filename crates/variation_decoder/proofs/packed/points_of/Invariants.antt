use Rattle.std.proofs.Common.{◌≡◌, ◌<◌, ◌≤◌, ◌^◌, drop}
use Rattle.variation_decoder.specs.Points.{rising}
use Rattle.variation_decoder.proofs.Rising.{after}
use Rattle.variation_decoder.proofs.packed.points_of.Given as goal

abbrev pub invariant-loop-difference : goal.invariant-loop-difference
invariant-loop-difference l = record {
  same : after l.points (rising l.before l.low l.total (drop l.difference-index l.differences)) ≡ rising 0 0 l.total l.differences;
  before : l.before < 2 ^ 16;
  low : l.low ≤ 2 ^ 16;
}
