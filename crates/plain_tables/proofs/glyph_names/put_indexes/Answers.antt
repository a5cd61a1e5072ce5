use Rattle.std.proofs.Common.{◌≡◌, ℕ, ◌+◌, List, [], ◌∷◌, ◌++◌, refl, sym, ap, ◌∙◌, arith}
use Rattle.std.proofs.lemmas.List.{flat_map_more}
use Rattle.std.specs.List.{flat_map}
use Rattle.plain_tables.specs.GlyphNames.{index_bytes, numbers_from}
use Rattle.plain_tables.proofs.NameReading.{numbers_more}
use Rattle.plain_tables.proofs.glyph_names.put_indexes.Goals as goal

pub loop-glyph-preserved : goal.loop-glyph-preserved
loop-glyph-preserved c =
    let i : ℕ = c.loop-glyph.glyph in
    let before : List ℕ = c.args.out.now.items in
    c.in_ok-put_u16.ensures.ok
    ∙ ap (λ (bytes : List ℕ). bytes ++ index_bytes (258 + i)) c.loop-glyph.invariant
    ∙ flat_map_more index_bytes before (numbers_from 258 i) (258 + i)
    ∙ ap (λ (indexes : List ℕ). before ++ flat_map index_bytes indexes) (sym (numbers_more 258 i (i + 1) refl))

pub returns : goal.returns
returns c =
    let all : c.loop-glyph.glyph ≡ c.args.glyphs = omega arith in
    c.loop-glyph.invariant ∙ ap (λ (n : ℕ). c.args.out.now.items ++ flat_map index_bytes (numbers_from 258 n)) all
