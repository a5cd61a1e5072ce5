use Rattle.std.proofs.Common.{◌≡◌, ◌+◌, ◌*◌, ◌+ℤ◌, drop}
use Rattle.variation_rules.specs.DrawnOutline.{phantom_movement, drawn_advance}
use Rattle.variation_rules.specs.FontUnits.{IsWithin}
use Rattle.variation_rules.proofs.drawing.moved_advance.Given as goal

-- the tuples that are left complete the movement, and each adds at most 2 ^ 31
abbrev pub invariant-loop-tuple : goal.invariant-loop-tuple
invariant-loop-tuple l = record {
  advance : l.moved +ℤ phantom_movement l.at (drop l.tuple-index l.tuples) (l.outline_points + 1) ≡ drawn_advance l.advance l.outline_points l.at l.tuples;
  within : IsWithin (140737488355328 + l.tuple-index * 2147483648) l.moved;
}
