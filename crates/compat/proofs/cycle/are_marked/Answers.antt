use Rattle.std.proofs.Common.{◌≡◌, true, refl, subst}
use Rattle.std.specs.Prelude.{All}
use Rattle.std.proofs.lemmas.List.{take_all}
use Rattle.std.proofs.lemmas.List.Elements.{All-more}
use Rattle.compat.specs.Searches.{is_marked}
use Rattle.compat.proofs.cycle.are_marked.Goals as goal

pub loop-base-preserved : goal.loop-base-preserved
loop-base-preserved c =
    All-more (λ base. is_marked c.args.marked.now base ≡ true) c.args.bases.now c.loop-base.base-index 0 c.loop-base-test.true c.loop-base.invariant c.if-not-marked-base.false

pub returns : goal.returns
returns c = (λ yes. subst (All (λ base. is_marked c.args.marked.now base ≡ true)) (take_all c.loop-base.base-index c.args.bases.now c.loop-base-test.false) c.loop-base.invariant, λ all. refl)

pub returns-then-not-marked-base : goal.returns-then-not-marked-base
returns-then-not-marked-base c =
    (λ yes. cc yes, λ all. let was = all c.loop-base.base-index 0 c.loop-base-test.true in absurd (cc (was, c.if-not-marked-base.true)))
