use Rattle.iup.specs.Arcs.{RisesFrom}
use Rattle.iup_optimal.proofs.tests.chosen.Given as goal

abbrev pub invariant-loop-i : goal.invariant-loop-i
invariant-loop-i l = RisesFrom 0 l.i l.set.items
