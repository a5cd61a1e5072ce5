use Rattle.std.proofs.Common.{◌≡◌, ℕ, ◌+◌, ◌-◌, ◌<◌, get_or}
use Rattle.iup_optimal.specs.Steps.{Steps}
use Rattle.iup_optimal.proofs.way.next_member.Given as goal

abbrev pub invariant-loop-to : goal.invariant-loop-to
invariant-loop-to l = (z : ℕ) → z < l.to → Steps l.table l.at z → get_or l.left (l.end - z) 0 + 1 ≡ get_or l.left (l.end - l.at) 0 → ⊥
