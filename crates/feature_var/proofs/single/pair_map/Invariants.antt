use Rattle.std.proofs.Common.{◌≡◌, drop}
use Rattle.std.specs.List.{AllByRecursion}
use Rattle.feature_var.specs.Layout.{in_glyph_order}
use Rattle.feature_var.specs.Limits.{IsGlyphPair}
use Rattle.feature_var.proofs.single.pair_map.Given as goal

-- the pairs from this number on are in the map
abbrev pub invariant-loop-number : goal.invariant-loop-number
invariant-loop-number l = record {
  order : l.map.entries ≡ in_glyph_order (drop l.number l.pairs);
  glyphs : AllByRecursion IsGlyphPair (drop l.number l.pairs);
}
