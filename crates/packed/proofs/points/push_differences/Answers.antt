-- Each turn adds the first run of the rest; in the end no difference is left.
use Rattle.std.proofs.Common.{◌≡◌, ◌^◌, ◌<◌, All, length, arith, subst, refl}
use Rattle.std.proofs.lemmas.List.Elements.{All-from_get_or}
use Rattle.packed.proofs.PointRuns.{run_added, all_packed}
use Rattle.packed.proofs.RunLists.{all_of_both}
use Rattle.packed.proofs.points.push_differences.Goals as goal

pub loop-rest-init : goal.loop-rest-init
loop-rest-init c = record {
  words = All-from_get_or (λ d. d < 2 ^ 16) c.args.differences.now 0 (λ k h. omega (arith, c.type_inv.differences k));
  completes = λ tail packed. record { added = tail; beyond = refl; packs = packed };
}

pub loop-rest-preserved : goal.loop-rest-preserved
loop-rest-preserved c =
    let kept = c.loop-rest.invariant in
    let begins = c.split_run-class.ensures in
    record {
      words = (all_of_both (λ d. d < 2 ^ 16) _ _ (subst (All (λ d. d < 2 ^ 16)) begins.whole kept.words)).1;
      completes = λ tail packed. run_added _ _ _ _ _ _ tail _ _ begins kept.words c.in_ok-push_run.ensures packed kept.completes;
    }

pub returns : goal.returns
returns c =
    let none : length c.loop-rest.rest.now ≡ 0 = grind (arith) in
    all_packed _ _ _ _ none c.loop-rest.invariant.completes
