use Rattle.std.proofs.Common.{◌≡◌, ◌++◌, All, length, drop}
use Rattle.variation_rules.specs.FontUnits.{IsFWord}
use Rattle.delta_solve.specs.Deltas.{deltas_after, deltas_by}
use Rattle.delta_solve.specs.GlyphModels.{first_some, misfits_from, number_fault}
use Rattle.delta_solve.proofs.number.number_deltas.Given as goal

-- the masters that are left complete the deltas, and the first fault is among theirs
abbrev pub invariant-loop-master : goal.invariant-loop-master
invariant-loop-master l = record {
  count : length l.deltas.items ≡ l.master;
  within : All IsFWord l.deltas.items;
  rest : l.deltas.items ++ deltas_after l.deltas.items (drop l.master l.rows) (drop l.master l.values) ≡ deltas_by l.rows l.values;
  fault : first_some (misfits_from l.master (deltas_after l.deltas.items (drop l.master l.rows) (drop l.master l.values))) ≡ number_fault (deltas_by l.rows l.values);
}
