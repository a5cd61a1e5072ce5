use Rattle.std.proofs.Common.{ℕ, get_or, arith}
use Rattle.std.proofs.lemmas.List.{length_push}
use Rattle.std.proofs.lemmas.List.Elements.{All-push}
use Rattle.fixpoint.specs.declared.plane.Pair.{Pair}
use Rattle.variation_rules.specs.InferredDelta.{still}
use Rattle.variation_rules.specs.FontUnits.{AreFWords}
use Rattle.variation_rules.specs.PointDelta.{IsDeltaAt, given_at}
use Rattle.variation_rules.proofs.FillingLemmas.{each_pushed, contour_from_deltas, delta_of_contour}
use Rattle.variation_rules.proofs.filling.contour_deltas.Goals as goal

-- a filled contour would have a delta at this point too
pub returns-in-None-clause-value : goal.returns-in-None-clause-value
returns-in-None-clause-value c deltas fills =
    c.in-None.ensures.value (get_or deltas c.loop-i.i still) (delta_of_contour c.args.points.now (given_at c.args.given.now) deltas c.loop-i.i fills (omega arith))

pub loop-i-preserved : goal.loop-i-preserved
loop-i-preserved c =
    let deltas = c.loop-i.deltas.items in
    let delta = c.in-Some.delta in
    rw c.in_ok-push-in-Some.ensures.items (record {
      count = omega (arith, length_push deltas delta);
      each = each_pushed (λ (k : ℕ) (x : Pair). IsDeltaAt c.args.points.now (given_at c.args.given.now) k x) deltas delta still c.loop-i.i c.loop-i.invariant.count c.loop-i.invariant.each c.in-Some.ensures.value;
      within = All-push AreFWords deltas delta c.loop-i.invariant.within c.in-Some.ensures.within;
    })

pub returns-clause-value : goal.returns-clause-value
returns-clause-value c =
    contour_from_deltas c.args.points.now (given_at c.args.given.now) c.loop-i.deltas.items (omega arith) (λ i below. c.loop-i.invariant.each i (omega arith))
