use Rattle.std.proofs.Common.{◌≡◌, ℕ, ◌<◌, All, IfSome, length}
use Rattle.variation_rules.specs.DrawnOutline.{named_delta}
use Rattle.variation_rules.specs.FontUnits.{AreFWords}
use Rattle.variation_rules.specs.PointDelta.{given_at}
use Rattle.variation_rules.proofs.filling.given_deltas.Given as goal

abbrev pub invariant-loop-point : goal.invariant-loop-point
invariant-loop-point l = record {
  count : length l.given.items ≡ l.point;
  each : (i : ℕ) → i < l.point → given_at l.given.items i ≡ named_delta l.tuple.points l.tuple.deltas i;
  within : All (λ delta. IfSome delta AreFWords) l.given.items;
}
