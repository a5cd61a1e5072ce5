use Rattle.std.proofs.Common.{◌≡◌, ◌+◌, ◌≤◌, length}
use Rattle.std.specs.List.{AllZip}
use Rattle.gvar_table.specs.Table.{points_in_tuples}
use Rattle.gvar_table.specs.Tuples.{AreTuplesOf}
use Rattle.gvar_table.proofs.conditions.are_glyphs_of.Given as goal

-- Where the rest can be written, all can; the points so far and those of the rest are all points.
abbrev pub invariant-loop-later_glyphs : goal.invariant-loop-later_glyphs
invariant-loop-later_glyphs l = record {
  each : AllZip (AreTuplesOf l.fn.axes) l.later_counts l.later_glyphs → AllZip (AreTuplesOf l.fn.axes) l.fn.counts l.fn.glyphs;
  points_are : points_in_tuples l.fn.counts l.fn.glyphs ≡ l.points + points_in_tuples l.later_counts l.later_glyphs;
  small : l.points ≤ 16777216;
}

abbrev pub decreases-loop-later_glyphs : goal.decreases-loop-later_glyphs
decreases-loop-later_glyphs l = length l.later_glyphs
