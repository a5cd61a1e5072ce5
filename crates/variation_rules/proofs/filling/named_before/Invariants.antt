use Rattle.std.proofs.Common.{◌≡◌, ℕ, ◌+◌, ◌%◌, ◌<◌, ◌≤◌, None}
use Rattle.variation_rules.specs.PointDelta.{given_at}
use Rattle.variation_rules.proofs.filling.named_before.Given as goal

abbrev pub invariant-loop-back : goal.invariant-loop-back
invariant-loop-back l = (x : ℕ) → l.i + l.n ≤ x + l.back → x < l.i + l.n → given_at l.given (x % l.n) ≡ None
