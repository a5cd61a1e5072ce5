use Rattle.iup_optimal.specs.Rounds.{AreBestTo}
use Rattle.iup_optimal.proofs.rounds.shortest_rounds.Given as goal

abbrev pub invariant-loop-point : goal.invariant-loop-point
invariant-loop-point l = AreBestTo l.table.points.now l.table.deltas.now l.pivot l.point l.best
