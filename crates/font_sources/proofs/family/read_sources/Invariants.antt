use Rattle.std.proofs.Common.{◌≡◌, take, drop}
use Rattle.std.specs.Prelude.{All}
use Rattle.basics.specs.Reading.{with_prefix}
use Rattle.source_files.specs.Stops.{Anywhere, GoesOn}
use Rattle.font_sources.specs.GlyphOrder.{glyph_order}
use Rattle.font_sources.specs.Limits.{IsSourceWithin, folders_of, paths_of}
use Rattle.font_sources.specs.Sources.{sources_among}
use Rattle.font_sources.proofs.family.read_sources.Given as goal

abbrev pub invariant-loop-source : goal.invariant-loop-source
invariant-loop-source g l = record {
  reading : GoesOn (g.S.Sources.state l.fn.sources) (g.S.Sources.state l.sources) Anywhere Anywhere
      (sources_among (g.S.Sources.state l.fn.sources).files l.default l.listed ≡ with_prefix l.found (sources_among (g.S.Sources.state l.fn.sources).files l.default (drop l.source-index l.listed)));
  within : All (IsSourceWithin (glyph_order l.default.makes l.default.names)) l.found;
  folders : folders_of l.found ≡ paths_of (take l.source-index l.listed);
}
