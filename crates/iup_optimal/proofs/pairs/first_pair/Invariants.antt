use Rattle.std.proofs.Common.{ℕ, ◌<◌}
use Rattle.iup_optimal.specs.Steps.{Steps, count}
use Rattle.iup_optimal.specs.Pairs.{IsPair}
use Rattle.iup_optimal.proofs.pairs.first_pair.Given as goal

abbrev pub invariant-loop-first : goal.invariant-loop-first
invariant-loop-first l = (w v : ℕ) → w < l.first → IsPair (Steps l.table) (count l.table) w v → ⊥
