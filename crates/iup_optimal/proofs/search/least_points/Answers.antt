use Rattle.std.proofs.Common.{◌≡◌, ◌+◌, All, List, ℕ, length, sym, ◌∙◌, subst}
use Rattle.fixpoint.specs.declared.plane.Pair.{Pair}
use Rattle.variation_rules.specs.InferredDelta.{still}
use Rattle.iup.specs.Arcs.{IsLeastSet}
use Rattle.iup.specs.Bounds.{Reaches}
use Rattle.iup_optimal.specs.Pairs.{IsNearestPair}
use Rattle.iup_optimal.proofs.PairLemmas.{least_two, first_from_nearest}
use Rattle.iup_optimal.proofs.search.least_points.Goals as goal

pub returns-in-Some : goal.returns-in-Some
returns-in-Some c =
    let points = c.args.points.now in
    let deltas = c.args.deltas.now in
    let moves : All (λ (delta : Pair). delta ≡ still) deltas → ⊥ = λ still_all. let tested = c.infers.ensures.1 still_all in absurd cc in
    let alone : Reaches points deltas 0 (0 + length points) → ⊥ = λ reach. let tested = c.arc_holds.ensures.1 reach.spans in absurd cc in
    let found : IsNearestPair (Reaches points deltas) (length points) 0 c.in-Some.second = c.in-Some.ensures in
    let least = least_two points deltas 0 c.in-Some.second c.requires.same moves alone (first_from_nearest (Reaches points deltas) (length points) c.in-Some.second found) in
    subst (λ (xs : List ℕ). IsLeastSet points deltas xs) (sym (c.from_vec-in-Some.ensures ∙ c.in_ok-pair.ensures)) least
