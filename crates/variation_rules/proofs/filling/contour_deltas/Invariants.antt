use Rattle.std.proofs.Common.{◌≡◌, ℕ, ◌<◌, All, length, get_or}
use Rattle.variation_rules.specs.FontUnits.{AreFWords}
use Rattle.variation_rules.specs.InferredDelta.{still}
use Rattle.variation_rules.specs.PointDelta.{IsDeltaAt, given_at}
use Rattle.variation_rules.proofs.filling.contour_deltas.Given as goal

abbrev pub invariant-loop-i : goal.invariant-loop-i
invariant-loop-i l = record {
  count : length l.deltas.items ≡ l.i;
  each : (k : ℕ) → k < l.i → IsDeltaAt l.points (given_at l.given) k (get_or l.deltas.items k still);
  within : All AreFWords l.deltas.items;
}
