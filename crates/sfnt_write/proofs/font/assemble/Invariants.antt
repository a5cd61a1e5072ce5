use Rattle.std.proofs.Common.{◌≡◌, ◌++◌, map}
use Rattle.std.specs.List.{AllByRecursion}
use Rattle.std.specs.Vec.Iter.{into_iter_items}
use Rattle.sfnt_write.specs.Layout.{piece_of}
use Rattle.sfnt_write.specs.Steps.{HasField}
use Rattle.sfnt_write.specs.Tables.{slice_of}
use Rattle.sfnt_write.proofs.font.assemble.Given as goal

-- The pieces so far and those of the tables that are left are all pieces.
abbrev pub invariant-loop-table : goal.invariant-loop-table
invariant-loop-table l = record {
  written : map (λ piece. piece.items) l.pieces ++ map (piece_of l.adjustment) (map slice_of (into_iter_items l.table-iterator)) ≡ map (λ piece. piece.items) l.initial.pieces ++ map (piece_of l.adjustment) (map slice_of l.fn.tables);
  fields : AllByRecursion HasField (map slice_of (into_iter_items l.table-iterator));
}
