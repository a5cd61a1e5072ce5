use Rattle.std.proofs.Common.{◌≡◌, map, take}
use Rattle.std.specs.Prelude.{All}
use Rattle.feature_var.specs.Layout.{in_glyph_order}
use Rattle.feature_var.specs.Limits.{IsGlyphPair}
use Rattle.feature_var.proofs.lookups.ordered_lists.Given as goal

-- the lists so far
abbrev pub invariant-loop-pairs : goal.invariant-loop-pairs
invariant-loop-pairs l = record {
  order : l.lists ≡ map in_glyph_order (take l.pairs-index l.subs);
  glyphs : All (λ pairs. All IsGlyphPair pairs) (take l.pairs-index l.subs);
}
