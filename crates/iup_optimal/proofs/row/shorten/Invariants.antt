use Rattle.std.proofs.Common.{◌≡◌, ◌+◌, ◌-◌, get_or}
use Rattle.iup_optimal.specs.Steps.{Steps, count}
use Rattle.iup_optimal.proofs.RowLemmas.{Shortened}
use Rattle.iup_optimal.proofs.row.shorten.Given as goal

abbrev pub invariant-loop-end : goal.invariant-loop-end
invariant-loop-end l = record {
  shortened : Shortened (Steps l.table) l.start (count l.table) l.from l.low l.row;
  through : l.through ≡ get_or l.row l.from 0 + 1;
}

abbrev pub decreases-loop-end : goal.decreases-loop-end
decreases-loop-end l = count l.table + 1 - l.low
