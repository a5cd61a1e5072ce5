use Rattle.std.proofs.Common.{◌≡◌, ℕ, ◌<◌, length, get_or, pos}
use Rattle.fixpoint.specs.declared.plane.Pair.{Pair}
use Rattle.variation_rules.specs.DrawnOutline.{drawn}
use Rattle.variation_rules.proofs.drawing.draw.Given as goal

abbrev pub invariant-loop-i : goal.invariant-loop-i
invariant-loop-i l = record {
  count : length l.drawn.items ≡ l.i;
  x : (k : ℕ) → k < l.i → (get_or l.drawn.items k (record { x = pos 0; y = pos 0 })).x ≡ drawn (λ (point : Pair). point.x) l.points l.at l.tuples l.fills.items k;
  y : (k : ℕ) → k < l.i → (get_or l.drawn.items k (record { x = pos 0; y = pos 0 })).y ≡ drawn (λ (point : Pair). point.y) l.points l.at l.tuples l.fills.items k;
}
