use Rattle.std.proofs.Common.{◌≡◌, ◌-◌, All, length, flat_map}
use Rattle.variation_rules.specs.PackedPoints.{count_from}
use Rattle.delta_solve.specs.GlyphModels.{IsTupleWithin, first_some, misfits_of, fault_by}
use Rattle.delta_solve.proofs.Columns.{AreSoFar}
use Rattle.delta_solve.proofs.glyph.tuples_of.Given as goal

-- the masters that are left complete the deltas, and the first fault is among theirs
abbrev pub invariant-loop-master : goal.invariant-loop-master
invariant-loop-master l = record {
  so_far : AreSoFar l.rows l.outlines l.master l.tuples.items;
  within : All IsTupleWithin l.tuples.items;
  fault : first_some (flat_map (misfits_of l.rows l.outlines) (count_from (length l.outlines - l.master) l.master)) ≡ fault_by l.rows l.outlines;
}
