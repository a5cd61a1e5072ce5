use Rattle.std.proofs.Common.{◌≡◌, drop, take}
use Rattle.basics.specs.Reading.{with_prefix}
use Rattle.source_files.specs.Stops.{GoesOn}
use Rattle.ufo_source.specs.Glyphs.{wanted_glyphs}
use Rattle.ufo_source.specs.Limits.{AreGlyphsOf}
use Rattle.ufo_source.specs.Paths.{IsIn}
use Rattle.ufo_source.proofs.wanted.read_wanted.Given as goal

abbrev pub invariant-loop-name : goal.invariant-loop-name
invariant-loop-name g l = record {
  goes : GoesOn (g.S.Sources.state l.fn.sources) (g.S.Sources.state l.sources) (IsIn l.folder) (IsIn l.folder)
      (wanted_glyphs (g.S.Sources.state l.fn.sources).files l.folder l.layer l.index l.names ≡ with_prefix l.drawings (wanted_glyphs (g.S.Sources.state l.fn.sources).files l.folder l.layer l.index (drop l.name-index l.names)));
  read : AreGlyphsOf (take l.name-index l.names) l.drawings;
}
