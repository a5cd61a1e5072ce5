use Rattle.std.proofs.Common.{◌≡◌, ℕ, ◌+◌, ◌*◌, ◌≤◌, All, length, map}
use Rattle.gvar_table.specs.Tuples.{IsTupleOf, variation_of}
use Rattle.glyph_variations.specs.Conditions.{AreWritable}
use Rattle.glyph_variations.specs.Variations.{explicit_points}
use Rattle.glyph_variations.proofs.LoopLemmas.{IsSoFar}
use Rattle.glyph_variations.proofs.tuples.moving.Given as goal

-- the masters that are left complete the tuples
abbrev pub invariant-loop-master : goal.invariant-loop-master
invariant-loop-master l = record {
  so_far : IsSoFar l.lengths l.supports l.masters l.master (map variation_of l.tuples.items);
  few : length l.tuples.items + 1 ≤ l.master;
  last : l.master ≤ 128;
  explicit : l.explicit ≡ explicit_points (length l.points) (map variation_of l.tuples.items);
  most : l.explicit ≤ 4004 * l.master;
  writable : (axes : ℕ) → AreWritable axes l.supports → All (IsTupleOf axes (length l.points + 4)) l.tuples.items;
}
