use Rattle.std.proofs.Common.{◌+◌, ◌≤◌, length, drop}
use Rattle.gvar_table.proofs.TableLemmas.{Completes, wanted}
use Rattle.gvar_table.proofs.glyphs.table.Given as goal

-- What stands for the rest completes the whole; what is written and what is still wanted has room.
abbrev pub invariant-loop-i : goal.invariant-loop-i
invariant-loop-i l = record {
  completes : Completes l.fn.counts l.fn.glyphs l.offsets.items l.body.items (drop l.i l.fn.counts) (drop l.i l.fn.glyphs);
  room : length l.body.items + wanted l.i l.fn.counts l.fn.glyphs ≤ wanted 0 l.fn.counts l.fn.glyphs;
}
