use Rattle.std.proofs.Common.{◌≡◌, ◌++◌, pos, negsuc, drop}
use Rattle.std.specs.Prelude.{◌≤ℤ◌}
use Rattle.glyf_loca.specs.Axes.{coordinates_on}
use Rattle.glyf_loca.specs.Layout.{steps_from}
use Rattle.glyf_loca.proofs.simple.put_steps.Given as goal

-- the steps of the rest complete the whole, and the coordinate before them is within limits
abbrev pub invariant-loop-point : goal.invariant-loop-point
invariant-loop-point l = record {
  completes : l.out.items ++ steps_from l.before (coordinates_on l.axis (drop l.point-index l.points)) ≡ l.fn.out.items ++ steps_from (pos 0) (coordinates_on l.axis l.points);
  least : negsuc 16383 ≤ℤ l.before;
  greatest : l.before ≤ℤ pos 16383;
}
