use Rattle.std.proofs.Common.{◌≡◌, true, take}
use Rattle.std.specs.Prelude.{All}
use Rattle.compat.specs.Searches.{is_marked, AreMarkings}
use Rattle.compat.proofs.cycle.mark_all.Given as goal

abbrev pub invariant-loop-base : goal.invariant-loop-base
invariant-loop-base l = AreMarkings l.bases l.fn.marked.items l.fn.waiting.items l.marked.items l.waiting.items × All (λ base. is_marked l.marked.items base ≡ true) (take l.base-index l.bases)
