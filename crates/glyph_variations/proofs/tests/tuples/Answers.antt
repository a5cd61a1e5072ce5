use Rattle.std.proofs.Common.{◌≡◌, ◌<◌, ◌≤◌, [], ◌∷◌, List, All, length, sym, ◌∙◌, arith}
use Rattle.delta_solve.specs.GlyphModels.{IsTupleWithin}
use Rattle.delta_solve.specs.declared.model.GlyphTuple.{GlyphTuple}
use Rattle.glyph_variations.specs.Conditions.{AreGlyphTuples, point_count}
use Rattle.glyph_variations.proofs.tests.tuples.Goals as goal

-- tuples of four points
four_count : (tuples : List GlyphTuple) → 0 < length tuples → All (λ (tuple : GlyphTuple). length tuple.deltas ≡ 4) tuples → point_count tuples ≡ 4
four_count [] some four = absurd (omega arith)
four_count (default ∷ tuples) some four = four 0 default (omega arith)

four_points : (tuples : List GlyphTuple) → 0 < length tuples → length tuples ≤ 128 → All (λ (tuple : GlyphTuple). length tuple.deltas ≡ 4) tuples → All IsTupleWithin tuples → AreGlyphTuples tuples
four_points tuples some few four within =
    let count = four_count tuples some four in record {
      few = few;
      few_points = omega arith;
      alike = λ k d below. four k d below ∙ sym count;
      within = within;
    }

pub returns-clause-are : goal.returns-clause-are
returns-clause-are c =
    let counted = c.loop-line.invariant.count in
    let ended = c.loop-line.auto.line-index-end in
    rw c.from_vec.ensures (four_points c.loop-line.tuples.items (omega (arith, counted, ended, c.requires.some)) (omega (arith, counted, ended, c.requires.few)) c.loop-line.invariant.four c.loop-line.invariant.within)

pub returns-clause-count : goal.returns-clause-count
returns-clause-count c =
    let counted = c.loop-line.invariant.count in
    let ended = c.loop-line.auto.line-index-end in
    rw c.from_vec.ensures (four_count c.loop-line.tuples.items (omega (arith, counted, ended, c.requires.some)) c.loop-line.invariant.four)
