use Rattle.std.proofs.Common.{◌≡◌, ◌<◌, ◌++◌, ◌∷◌, ◌∙◌, [], length, ap, refl, subst, sym, arith, length-append}
use Rattle.std.specs.Prelude.{All, slice_index}
use Rattle.std.proofs.lemmas.List.{get_or_default}
use Rattle.compat.specs.References.{bases_at}
use Rattle.compat.proofs.Marking.{read_bases}
use Rattle.compat.proofs.Spreading.{no_referrers, more_referrers, none_more}
use Rattle.compat.proofs.cycle.referrers.Goals as goal

pub loop-bases-init : goal.loop-bases-init
loop-bases-init c = let new = c.new-referrers.ensures.items in (ap length new, λ number. ap (λ g. bases_at g number) new)

pub loop-bases-preserved : goal.loop-bases-preserved
loop-bases-preserved c =
    let push = c.in_ok-push.ensures in
    let more : c.push.new.self.items ≡ c.loop-bases.referrers.items ++ [] ∷ [] = push.items ∙ ap (λ bases. c.loop-bases.referrers.items ++ bases ∷ []) c.new.ensures in
    let sizes = c.loop-bases.invariant.0 in (
      rw more (length-append c.loop-bases.referrers.items ([] ∷ []) ∙ omega (arith, sizes)),
      rw more (none_more c.loop-bases.referrers.items c.loop-bases.invariant.1),
    )

pub loop-number-init : goal.loop-number-init
loop-number-init c =
    no_referrers (length c.args.graph.now) c.loop-bases.referrers.items (let sizes = c.loop-bases.invariant.0 in omega (arith, sizes, c.loop-bases-test.false, c.loop-bases.auto)) c.loop-bases.invariant.1

pub index_mut-requires : goal.index_mut-requires
index_mut-requires c =
    let bases = read_bases c.args.graph.now c.loop-number.number c.as_slice-base-items.result.now c.index-graph-number.result c.as_slice-base-items.ensures c.index-graph-number.is c.loop-number-test.true in
    let below = subst (All (λ base. base < length c.args.graph.now)) (sym bases) (c.requires c.loop-number.number) in
    let known = below c.loop-base.base-index 0 c.loop-base-test.true in
    omega (arith, known, c.loop-base.invariant.sizes)

pub loop-base-preserved : goal.loop-base-preserved
loop-base-preserved c =
    let base = slice_index c.as_slice-base-items.result.now c.loop-base.base-index in
    let bases = read_bases c.args.graph.now c.loop-number.number c.as_slice-base-items.result.now c.index-graph-number.result c.as_slice-base-items.ensures c.index-graph-number.is c.loop-number-test.true in
    let below = subst (All (λ base. base < length c.args.graph.now)) (sym bases) (c.requires c.loop-number.number) in
    let known = below c.loop-base.base-index 0 c.loop-base-test.true in
    let push = c.in_ok-push-2.ensures in
    let value = c.index_mut.ensures.value ∙ get_or_default c.loop-base.referrers.items base c.index_mut.result.now [] (omega (arith, known, c.loop-base.invariant.sizes)) in
    more_referrers (length c.args.graph.now) c.loop-base.referrers.items base c.loop-number.number _ c.push-in-loop-base.new.self known c.loop-number-test.true c.loop-base.invariant
    (push.ok ∙ ap (λ those. those ++ c.loop-number.number ∷ []) value) refl
