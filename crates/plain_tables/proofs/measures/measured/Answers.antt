use Rattle.std.proofs.Common.{◌≡◌, ℕ, ℤ, ◌≤◌, List, [], ◌∷◌, ◌++◌, length, take, ap, subst, ◌∙◌, arith, to_z, of_z}
use Rattle.std.proofs.lemmas.Int.{ints}
use Rattle.std.proofs.lemmas.List.{take_all}
use Rattle.std.specs.Int.{w32}
use Rattle.plain_tables.specs.GlyphMeasures.{glyphs_of, measures_of, widths_from}
use Rattle.plain_tables.specs.declared.glyphs.Glyph.{Glyph}
use Rattle.plain_tables.specs.declared.measures.Widths.{Widths}
use Rattle.plain_tables.proofs.GlyphLemmas.{glyphs_count}
use Rattle.plain_tables.proofs.MeasureSteps.{measures_more}
use Rattle.plain_tables.proofs.measures.measured.Goals as goal

pub loop-index-preserved : goal.loop-index-preserved
loop-index-preserved c =
    let glyphs : List Glyph = glyphs_of c.args.facts.now in
    let before : Widths = c.loop-index.measures.widths in
    let after : Widths = c.widened.result in
    let within = c.glyph_at-glyph.ensures.within.advance in
    let plain : to_z w32 (of_z w32 c.glyph_at-glyph.result.advance) ≡ c.glyph_at-glyph.result.advance = omega (arith, ints, within.least, within.greatest) in
    let widths = subst (λ (z : ℤ). (zs : List ℤ) → before ≡ widths_from zs → after ≡ widths_from (zs ++ z ∷ [])) plain c.widened.ensures.value in
    record {
      value = measures_more glyphs c.loop-index.index c.glyph_at-glyph.result c.loop-index.measures c.extended.result after c.counted.result (omega (arith, glyphs_count c.args.facts.now c.requires)) c.glyph_at-glyph.ensures.here c.loop-index.invariant.value c.extended.ensures widths c.counted.ensures;
      within = c.widened.ensures.within;
      few = omega (arith, c.widened.ensures.few);
    }

pub returns-clause-value : goal.returns-clause-value
returns-clause-value c =
    let glyphs : List Glyph = glyphs_of c.args.facts.now in
    c.loop-index.invariant.value ∙ ap measures_of (take_all c.loop-index.index glyphs (omega (arith, glyphs_count c.args.facts.now c.requires)))
