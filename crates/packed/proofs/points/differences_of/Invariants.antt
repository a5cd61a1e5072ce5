use Rattle.std.proofs.Common.{◌≡◌, ℕ, List, ◌++◌, ◌^◌, length}
use Rattle.variation_rules.specs.PackedPoints.{RisesWithin, points_after}
use Rattle.packed.proofs.points.differences_of.Given as goal

-- The points left rise from the last one on, and their differences complete the whole.
abbrev pub invariant-loop-rest : goal.invariant-loop-rest
invariant-loop-rest l = record {
  rise : RisesWithin l.before (2 ^ 16) l.rest;
  complete : (more : List ℕ) → l.rest ≡ points_after l.before more → l.fn.points ≡ points_after 0 (l.differences.items ++ more);
}

abbrev pub decreases-loop-rest : goal.decreases-loop-rest
decreases-loop-rest l = length l.rest
