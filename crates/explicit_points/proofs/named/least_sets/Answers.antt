use Rattle.std.proofs.Common.{◌≡◌, ◌+◌, ◌<◌, ◌++◌, List, ℕ, length, map, take, drop, get_or, ◌∙◌, ap, subst, refl}
use Rattle.fixpoint.specs.declared.plane.Pair.{Pair}
use Rattle.iup.specs.Arcs.{IsLeastSet}
use Rattle.explicit_points.proofs.ContourSteps.{sets_next, sets_push, sets_end, set_below}
use Rattle.explicit_points.proofs.named.least_sets.Goals as goal

-- the set found is the least one of the next contour
pub push_contour-requires-clause-set : goal.push_contour-requires-clause-set
push_contour-requires-clause-set c =
    let n = c.from.result in
    let inside : c.loop-length.length-index < length c.args.lengths.now = c.loop-length-test.true in
    let next = sets_next c.args.lengths.now c.args.points.now c.args.deltas.now c.loop-length.length-index c.loop-length.start n c.loop-length.points.now c.loop-length.deltas.now c.loop-length.named.items inside c.from.ensures c.loop-length.invariant in
    let set = c.in_ok-set.set in
    let found : IsLeastSet c.split_at.result.0.now c.split_at-in-loop-length.result.0.now set = c.in_ok-set.ensures in
    let least : IsLeastSet (take n c.loop-length.points.now) c.split_at-in-loop-length.result.0.now set =
    subst (λ (ps : List Pair). IsLeastSet ps c.split_at-in-loop-length.result.0.now set) c.split_at.ensures.front found in
    rw c.as_slice.ensures (set_below n c.loop-length.points.now c.split_at-in-loop-length.result.0.now set next.short least)

pub loop-length-preserved : goal.loop-length-preserved
loop-length-preserved c =
    let k = c.loop-length.length-index in
    let n = get_or c.args.lengths.now k 0 in
    let inside : k < length c.args.lengths.now = c.loop-length-test.true in
    let first : c.from.result ≡ n = c.from.ensures in
    let second : c.from-in-loop-length.result ≡ n = c.from-in-loop-length.ensures in
    let third : c.from-start.result ≡ n = c.from-start.ensures in
    let own : c.split_at.result.0.now ≡ take n c.loop-length.points.now = c.split_at.ensures.front ∙ ap (λ m. take m c.loop-length.points.now) first in
    let moves : c.split_at-in-loop-length.result.0.now ≡ take n c.loop-length.deltas.now = c.split_at-in-loop-length.ensures.front ∙ ap (λ m. take m c.loop-length.deltas.now) second in
    let after : c.split_at.result.1.now ≡ drop n c.loop-length.points.now = c.split_at.ensures.back ∙ ap (λ m. drop m c.loop-length.points.now) first in
    let moves_after : c.split_at-in-loop-length.result.1.now ≡ drop n c.loop-length.deltas.now = c.split_at-in-loop-length.ensures.back ∙ ap (λ m. drop m c.loop-length.deltas.now) second in
    let set = c.in_ok-set.set in
    let found : IsLeastSet c.split_at.result.0.now c.split_at-in-loop-length.result.0.now set = c.in_ok-set.ensures in
    let least : IsLeastSet (take n c.loop-length.points.now) (take n c.loop-length.deltas.now) set =
    subst (λ (ds : List Pair). IsLeastSet (take n c.loop-length.points.now) ds set) moves
    (subst (λ (ps : List Pair). IsLeastSet ps c.split_at-in-loop-length.result.0.now set) own found) in
    let named : c.push_contour.new.named.items ≡ c.loop-length.named.items ++ map (λ point. c.loop-length.start + point) set =
    c.in_ok-push_contour.ensures ∙ ap (λ (xs : List ℕ). c.loop-length.named.items ++ map (λ point. c.loop-length.start + point) xs) c.as_slice.ensures in
    rw (third, after, moves_after, named)
    (sets_push c.args.lengths.now c.args.points.now c.args.deltas.now k c.loop-length.start n c.loop-length.points.now c.loop-length.deltas.now c.loop-length.named.items set inside refl c.loop-length.invariant least)

pub returns : goal.returns
returns c =
    sets_end c.args.lengths.now c.args.points.now c.args.deltas.now c.loop-length.length-index c.loop-length.start c.loop-length.points.now c.loop-length.deltas.now c.loop-length.named.items c.loop-length-test.false c.loop-length.invariant
