use Rattle.std.proofs.Common.{◌≡◌, ◌+◌, ◌*◌, ◌^◌, ◌≤◌, take}
use Rattle.fixpoint.specs.DecimalText.{filled, number_after}
use Rattle.fixpoint.proofs.decimal.first_decimals.Given as goal

abbrev pub invariant-loop-index : goal.invariant-loop-index
invariant-loop-index l = (l.number + 23 ≤ 23 * 10 ^ l.index) × (l.number ≡ number_after 0 (take l.index (filled l.decimals)))
