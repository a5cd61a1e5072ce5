use Rattle.std.proofs.Common.{◌≡◌, All, length}
use Rattle.delta_solve.specs.GlyphModels.{IsTupleWithin}
use Rattle.delta_solve.specs.declared.model.GlyphTuple.{GlyphTuple}
use Rattle.glyph_variations.proofs.tests.tuples.Given as goal

abbrev pub invariant-loop-line : goal.invariant-loop-line
invariant-loop-line l = record {
  count : length l.tuples.items ≡ l.line-index;
  four : All (λ (tuple : GlyphTuple). length tuple.deltas ≡ 4) l.tuples.items;
  within : All IsTupleWithin l.tuples.items;
}
