use Rattle.std.proofs.Common.{ℕ, ◌-◌, ◌<◌, ◌≤◌}
use Rattle.iup_optimal.specs.BitSets.{Has}
use Rattle.iup_optimal.proofs.bits.Bits.next.Given as goal

abbrev pub invariant-loop-at : goal.invariant-loop-at
invariant-loop-at l = record {
  from_low : l.low ≤ l.at;
  none : (k : ℕ) → l.low ≤ k → k < l.at → Has l.self.words.items k → ⊥;
}

abbrev pub decreases-loop-at : goal.decreases-loop-at
decreases-loop-at l = l.high - l.at
