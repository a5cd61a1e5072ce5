use Rattle.std.proofs.Common.{◌≡◌, ◌++◌, map, take}
use Rattle.std.specs.List.{flat_map}
use Rattle.plain_tables.specs.GlyphMeasures.{glyphs_of}
use Rattle.plain_tables.specs.HorizontalMetrics.{metric_bytes, metric_of}
use Rattle.plain_tables.proofs.horizontal.hmtx.Given as goal

-- the metrics so far are appended
abbrev pub invariant-loop-index : goal.invariant-loop-index
invariant-loop-index l = l.bytes.items ≡ l.initial.bytes.items ++ flat_map metric_bytes (map metric_of (take l.index (glyphs_of l.facts)))
