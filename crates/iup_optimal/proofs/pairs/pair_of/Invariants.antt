use Rattle.std.proofs.Common.{ℕ, ◌-◌, ◌<◌, ◌≤◌}
use Rattle.iup_optimal.specs.Steps.{Steps, count}
use Rattle.iup_optimal.specs.Pairs.{IsPair}
use Rattle.iup_optimal.proofs.pairs.pair_of.Given as goal

abbrev pub invariant-loop-second : goal.invariant-loop-second
invariant-loop-second l = record {
  after : l.first < l.low;
  within : l.low ≤ count l.table;
  none : (v : ℕ) → v < l.low → IsPair (Steps l.table) (count l.table) l.first v → ⊥;
}

abbrev pub decreases-loop-second : goal.decreases-loop-second
decreases-loop-second l = count l.table - l.low
