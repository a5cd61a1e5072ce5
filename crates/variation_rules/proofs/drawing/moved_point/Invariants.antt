use Rattle.std.proofs.Common.{◌≡◌, ◌+◌, ◌*◌, ◌+ℤ◌, drop}
use Rattle.fixpoint.specs.declared.plane.Pair.{Pair}
use Rattle.variation_rules.specs.DrawnOutline.{movement, drawn}
use Rattle.variation_rules.specs.FontUnits.{IsWithin}
use Rattle.variation_rules.proofs.drawing.moved_point.Given as goal

-- the tuples that are left complete the movement, and each adds at most 2 ^ 31
abbrev pub invariant-loop-k : goal.invariant-loop-k
invariant-loop-k l = record {
  x : l.x +ℤ movement (λ (point : Pair). point.x) l.at (drop l.k l.tuples) (drop l.k l.fills) l.i ≡ drawn (λ (point : Pair). point.x) l.points l.at l.tuples l.fills l.i;
  y : l.y +ℤ movement (λ (point : Pair). point.y) l.at (drop l.k l.tuples) (drop l.k l.fills) l.i ≡ drawn (λ (point : Pair). point.y) l.points l.at l.tuples l.fills l.i;
  within_x : IsWithin (140737488355328 + l.k * 2147483648) l.x;
  within_y : IsWithin (140737488355328 + l.k * 2147483648) l.y;
}
