use Rattle.std.proofs.Common.{◌≡◌, take, length}
use Rattle.font_project.specs.Columns.{rows_in}
use Rattle.font_project.proofs.Moving.{AreLeft}
use Rattle.font_project.proofs.columns.rows_in.Given as goal

-- what was moved, and what is left
abbrev pub invariant-loop-number : goal.invariant-loop-number
invariant-loop-number l = record {
  moved : l.rows.items ≡ rows_in l.fn.sources.items (take l.number-index l.order);
  one_each : length l.sources.items ≡ length l.fn.sources.items;
  left : AreLeft l.fn.sources.items l.sources.items l.order l.number-index;
}
