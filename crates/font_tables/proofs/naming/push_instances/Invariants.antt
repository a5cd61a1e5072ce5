use Rattle.std.proofs.Common.{◌≡◌, ◌+◌, ◌++◌, drop, map}
use Rattle.font_tables.specs.FontNames.{texts_from}
use Rattle.font_tables.proofs.naming.push_instances.Given as goal

abbrev pub invariant-loop-instance : goal.invariant-loop-instance
invariant-loop-instance l = record {
  id : l.id ≡ l.first + l.instance-index;
  so_far : l.names ++ texts_from l.id (map (λ instance. instance.name) (drop l.instance-index l.instances)) ≡ l.fn.names ++ texts_from l.first (map (λ instance. instance.name) l.instances);
}
