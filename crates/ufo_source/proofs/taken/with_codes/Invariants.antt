use Rattle.std.proofs.Common.{◌≡◌, ℕ, ◌||◌, take}
use Rattle.std.specs.Prelude.{◌==◌}
use Rattle.std.specs.List.{list_any}
use Rattle.std.specs.Ordering.{nat_cmp}
use Rattle.std.specs.BTreeSet.{contains}
use Rattle.ufo_source.proofs.taken.with_codes.Given as goal

abbrev pub invariant-loop-code : goal.invariant-loop-code
invariant-loop-code l = (q : ℕ) → contains nat_cmp l.taken q ≡ (contains nat_cmp l.fn.taken q || list_any (λ other. other == q) (take l.code-index l.codes))
