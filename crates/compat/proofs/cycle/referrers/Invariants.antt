use Rattle.std.proofs.Common.{◌≡◌, ℕ, [], length}
use Rattle.compat.specs.References.{bases_at}
use Rattle.compat.specs.Searches.{AreReferrers}
use Rattle.compat.proofs.cycle.referrers.Given as goal

abbrev pub invariant-loop-bases : goal.invariant-loop-bases
invariant-loop-bases l = (length l.referrers.items ≡ l._bases-index) × ((number : ℕ) → bases_at l.referrers.items number ≡ [])

abbrev pub invariant-loop-number : goal.invariant-loop-number
invariant-loop-number l = AreReferrers (length l.graph) l.referrers.items

abbrev pub invariant-loop-base : goal.invariant-loop-base
invariant-loop-base l = AreReferrers (length l.graph) l.referrers.items
