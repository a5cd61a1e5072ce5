use Rattle.std.proofs.Common.{◌≡◌, ◌+◌, ◌++◌, drop}
use Rattle.font_tables.specs.FontAxes.{instances_from}
use Rattle.font_tables.proofs.instances.instance_records.Given as goal

abbrev pub invariant-loop-instance : goal.invariant-loop-instance
invariant-loop-instance l = record {
  id : l.id ≡ l.first + l.instance-index;
  so_far : l.records ++ instances_from l.id (drop l.instance-index l.instances) ≡ instances_from l.first l.instances;
}
