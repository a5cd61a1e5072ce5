use Rattle.std.proofs.Common.{◌≡◌, ℕ, ◌+◌, ◌<◌, ◌≤◌, subst, ⊎_elim, arith}
use Rattle.std.proofs.lemmas.Bool.{cases_lt}
use Rattle.variation_rules.specs.InferredDelta.{Inferred}
use Rattle.iup.proofs.arcs.arc_holds.Goals as goal

-- this point, too, is inferred
pub loop-place-preserved : goal.loop-place-preserved
loop-place-preserved c q low high =
    ⊎_elim
    (λ (less : q < c.loop-place.place). c.loop-place.invariant q low less)
    (λ (not_less : c.loop-place.place ≤ q).
    let here : c.loop-place.place ≡ q = omega arith in
    subst (λ (x : ℕ). Inferred c.args.points.now c.args.deltas.now c.args.i x (c.args.i + c.args.k)) here (c.is_inferred.ensures.0 c.if-not-is_inferred.false))
    (cases_lt q c.loop-place.place)
