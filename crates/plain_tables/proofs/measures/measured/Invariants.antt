use Rattle.std.proofs.Common.{◌≡◌, ◌≤◌, take}
use Rattle.plain_tables.specs.Conditions.{AreWidthsWithin}
use Rattle.plain_tables.specs.GlyphMeasures.{glyphs_of, measures_of}
use Rattle.plain_tables.proofs.measures.measured.Given as goal

-- the measures of the glyphs so far
abbrev pub invariant-loop-index : goal.invariant-loop-index
invariant-loop-index l = record {
  value : l.measures ≡ measures_of (take l.index (glyphs_of l.facts));
  within : AreWidthsWithin l.measures.widths;
  few : l.measures.widths.count ≤ l.index;
}
