use Rattle.std.proofs.Common.{◌≡◌, ◌+◌, ◌++◌, drop, map}
use Rattle.font_tables.specs.FontNames.{FIRST, texts_from}
use Rattle.font_tables.proofs.naming.push_labels.Given as goal

abbrev pub invariant-loop-axis : goal.invariant-loop-axis
invariant-loop-axis l = record {
  id : l.id ≡ FIRST + l.axis-index;
  so_far : l.names ++ texts_from l.id (map (λ axis. axis.label) (drop l.axis-index l.axes)) ≡ l.fn.names ++ texts_from FIRST (map (λ axis. axis.label) l.axes);
}
