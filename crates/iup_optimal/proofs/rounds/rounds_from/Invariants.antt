use Rattle.iup_optimal.proofs.RoundLemmas.{FirstPassed}
use Rattle.iup_optimal.proofs.rounds.rounds_from.Given as goal

abbrev pub invariant-loop-place : goal.invariant-loop-place
invariant-loop-place l = FirstPassed l.count l.start l.row.items l.left.items l.place
