use Rattle.std.proofs.Common.{◌≡◌, drop, map, take}
use Rattle.basics.specs.Reading.{in_turn}
use Rattle.source_files.specs.Stops.{GoesOn}
use Rattle.ufo_source.specs.Glyphs.{all_glyphs, with_glyph}
use Rattle.ufo_source.specs.Limits.{AreAllGlyphs}
use Rattle.ufo_source.specs.Paths.{IsIn}
use Rattle.ufo_source.proofs.glyphs.read_glyphs.Given as goal

abbrev pub invariant-loop-entry : goal.invariant-loop-entry
invariant-loop-entry g l = record {
  goes : GoesOn (g.S.Sources.state l.fn.sources) (g.S.Sources.state l.sources) (IsIn l.folder) (IsIn l.folder)
      (all_glyphs (g.S.Sources.state l.fn.sources).files l.folder l.layer l.entries ≡ in_turn (with_glyph (g.S.Sources.state l.fn.sources).files l.folder l.layer) l.glyphs (drop l.entry-index l.entries));
  read : AreAllGlyphs (map (λ entry. entry.0) (take l.entry-index l.entries)) l.glyphs;
}
