use Rattle.std.proofs.Common.{◌≡◌, ◌++◌}
use Rattle.std.specs.List.{flat_map}
use Rattle.plain_tables.specs.GlyphNames.{index_bytes, numbers_from}
use Rattle.plain_tables.proofs.glyph_names.put_indexes.Given as goal

-- the indexes so far are appended
abbrev pub invariant-loop-glyph : goal.invariant-loop-glyph
invariant-loop-glyph l = l.out.items ≡ l.initial.out.items ++ flat_map index_bytes (numbers_from 258 l.glyph)
