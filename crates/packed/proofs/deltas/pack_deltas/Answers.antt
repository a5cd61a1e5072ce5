-- Each turn adds the first run of the rest; in the end no value is left.
use Rattle.std.proofs.Common.{◌≡◌, All, FitsSigned, length, arith, subst}
use Rattle.std.specs.Int.{w16}
use Rattle.packed.proofs.DeltaRuns.{run_added, all_packed, packed_length}
use Rattle.packed.proofs.RunLists.{all_of_both}
use Rattle.packed.proofs.deltas.pack_deltas.Goals as goal

pub loop-rest-preserved : goal.loop-rest-preserved
loop-rest-preserved c =
    let kept = c.loop-rest.invariant in
    let begins = c.split_run-class.ensures in
    record {
      words = (all_of_both (FitsSigned w16) _ _ (subst (All (FitsSigned w16)) begins.whole kept.words)).1;
      completes = λ tail packed. run_added _ _ _ _ _ _ tail _ begins kept.words c.in_ok-push_run.ensures packed kept.completes;
    }

pub returns-clause-packed : goal.returns-clause-packed
returns-clause-packed c =
    let none : length c.loop-rest.rest.now ≡ 0 = grind (arith) in
    all_packed _ _ _ none c.loop-rest.invariant.completes

pub returns-clause-short : goal.returns-clause-short
returns-clause-short c = packed_length _ _ (returns-clause-packed c)
