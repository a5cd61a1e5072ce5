use Rattle.std.proofs.Common.{ℕ, List, ◌++◌, ◌*◌, ◌≤◌, length, map, drop}
use Rattle.gvar_table.specs.Layout.{AreWritten}
use Rattle.gvar_table.specs.Tuples.{variation_of}
use Rattle.gvar_table.proofs.glyph.glyph_data.Given as goal

-- What stands for the rest completes the whole; a header takes at most 52 bytes.
abbrev pub invariant-loop-tuple : goal.invariant-loop-tuple
invariant-loop-tuple l = record {
  completes : (more_headers more_parts : List ℕ) → AreWritten l.fn.count more_headers more_parts (map variation_of (drop l.tuple-index l.fn.tuples)) → AreWritten l.fn.count (l.headers.items ++ more_headers) (l.parts.items ++ more_parts) (map variation_of l.fn.tuples);
  short : length l.headers.items ≤ 52 * l.tuple-index;
}
