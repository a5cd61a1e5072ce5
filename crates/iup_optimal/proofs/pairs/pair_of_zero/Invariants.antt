use Rattle.std.proofs.Common.{ℕ, ◌<◌, length}
use Rattle.iup.specs.Bounds.{Reaches}
use Rattle.iup_optimal.specs.Pairs.{IsPair}
use Rattle.iup_optimal.specs.Views.{SeenTo}
use Rattle.iup_optimal.proofs.pairs.pair_of_zero.Given as goal

abbrev pub invariant-loop-second : goal.invariant-loop-second
invariant-loop-second l = record {
  seen : SeenTo l.points l.deltas 0 l.second l.view;
  none : (v : ℕ) → v < l.second → IsPair (Reaches l.points l.deltas) (length l.points) 0 v → ⊥;
}
