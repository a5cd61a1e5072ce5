use Rattle.std.proofs.Common.{◌≡◌, ◌++◌, drop}
use Rattle.font_model.specs.DefaultOutline.{points_at}
use Rattle.font_tables.proofs.drawings.points_at.Given as goal

abbrev pub invariant-loop-i : goal.invariant-loop-i
invariant-loop-i l = l.points.items ++ points_at (drop l.i l.on) (drop l.i l.positions) ≡ points_at l.on l.positions
