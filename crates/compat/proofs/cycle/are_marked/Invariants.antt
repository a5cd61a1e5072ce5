use Rattle.std.proofs.Common.{◌≡◌, true, take}
use Rattle.std.specs.Prelude.{All}
use Rattle.compat.specs.Searches.{is_marked}
use Rattle.compat.proofs.cycle.are_marked.Given as goal

abbrev pub invariant-loop-base : goal.invariant-loop-base
invariant-loop-base l = All (λ base. is_marked l.marked base ≡ true) (take l.base-index l.bases)
