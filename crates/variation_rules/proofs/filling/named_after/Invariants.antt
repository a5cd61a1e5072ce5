use Rattle.std.proofs.Common.{◌≡◌, ℕ, ◌+◌, ◌%◌, ◌<◌, ◌≤◌, None}
use Rattle.variation_rules.specs.PointDelta.{given_at}
use Rattle.variation_rules.proofs.filling.named_after.Given as goal

abbrev pub invariant-loop-on : goal.invariant-loop-on
invariant-loop-on l = (x : ℕ) → l.i + l.n < x → x ≤ l.i + l.n + l.on → given_at l.given (x % l.n) ≡ None
