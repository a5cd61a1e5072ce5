use Rattle.std.proofs.Common.{◌≡◌, ℕ, ◌<◌, List, length, pos, ap, arith}
use Rattle.glyf_loca.specs.declared.extent.Bounds.{Bounds}
use Rattle.plain_tables.proofs.GlyphLemmas.{glyph_read}
use Rattle.plain_tables.proofs.glyphs.glyph_at.Goals as goal

pub bounds-as_slice-index : goal.bounds-as_slice-index
bounds-as_slice-index c =
    let same : length c.as_slice.result.now ≡ length c.args.facts.now.lengths = ap (λ (xs : List (ℕ × ℕ)). length xs) c.as_slice.ensures in
    omega (arith, c.requires.facts.lengths_each)

pub bounds-as_slice-index-2 : goal.bounds-as_slice-index-2
bounds-as_slice-index-2 c =
    let same : length c.as_slice.result.now ≡ length c.args.facts.now.lengths = ap (λ (xs : List (ℕ × ℕ)). length xs) c.as_slice.ensures in
    omega (arith, c.requires.facts.lengths_each)

pub returns-clause-here : goal.returns-clause-here
returns-clause-here c =
    let none : Bounds = record { x_min = pos 0; y_min = pos 0; x_max = pos 0; y_max = pos 0 } in
    glyph_read c.args.facts.now c.args.index c.as_slice-2.result.now c.as_slice-3.result.now c.as_slice.result.now none _ c.requires.facts c.requires.within c.as_slice-2.ensures c.as_slice-3.ensures c.as_slice.ensures
