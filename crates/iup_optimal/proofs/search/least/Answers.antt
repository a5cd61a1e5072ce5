use Rattle.std.proofs.Common.{◌≡◌, All, List, subst}
use Rattle.fixpoint.specs.declared.plane.Pair.{Pair}
use Rattle.variation_rules.specs.InferredDelta.{still}
use Rattle.iup_optimal.specs.LeastSets.{IsLeast}
use Rattle.iup_optimal.proofs.LeastLemmas.{answer_is_least}
use Rattle.iup_optimal.proofs.search.least.Goals as goal

pub returns : goal.returns
returns c =
    let table = c.in_ok-table.table in
    let deltas = c.args.deltas.now in
    let moves : All (λ (delta : Pair). delta ≡ still) table.deltas.now → ⊥ = λ still_all.
    let tested = c.infers.ensures.1 (subst (λ (ds : List Pair). All (λ (delta : Pair). delta ≡ still) ds) c.in_ok-table.ensures.deltas still_all) in
    absurd cc in
    let answer = answer_is_least table.points.now table.deltas.now c.in_ok-set.set.items c.in_ok-rows.rows.items
    table.contour.same moves c.in_ok-set.ensures.set c.in_ok-set.ensures.size c.in_ok-rows.ensures in
    rw (c.from_vec.ensures, c.from_vec-2.ensures)
    (subst (λ (ps : List Pair). IsLeast ps deltas (record { points = c.in_ok-set.set.items; pivot = 0; rows = c.in_ok-rows.rows.items })) c.in_ok-table.ensures.points
    (subst (λ (ds : List Pair). IsLeast table.points.now ds (record { points = c.in_ok-set.set.items; pivot = 0; rows = c.in_ok-rows.rows.items })) c.in_ok-table.ensures.deltas answer))
