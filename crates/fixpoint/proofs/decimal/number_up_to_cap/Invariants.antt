use Rattle.std.proofs.Common.{◌≡◌, ◌^◌, ◌≤◌, min, drop}
use Rattle.fixpoint.specs.DecimalText.{number_after}
use Rattle.fixpoint.proofs.decimal.number_up_to_cap.Given as goal

abbrev pub invariant-loop-digit : goal.invariant-loop-digit
invariant-loop-digit l = (l.number ≤ 2 ^ 40) × (min (number_after l.number (drop l.digit-index l.digits)) (2 ^ 40) ≡ min (number_after 0 l.digits) (2 ^ 40))
