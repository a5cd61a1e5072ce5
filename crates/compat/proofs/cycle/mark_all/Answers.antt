use Rattle.std.proofs.Common.{◌≡◌, true, ◌<◌, length, arith, take}
use Rattle.std.proofs.lemmas.List.Elements.{Contains-get_or, All-more}
use Rattle.compat.specs.Searches.{is_marked}
use Rattle.compat.proofs.Marking.{more_markings, all_more, no_markings}
use Rattle.compat.proofs.cycle.mark_all.Goals as goal

pub loop-base-init : goal.loop-base-init
loop-base-init c = (no_markings c.args.bases.now c.args.marked.now.items c.args.waiting.now.items, λ k d less. absurd (omega (arith, less)))

pub loop-base-preserved : goal.loop-base-preserved
loop-base-preserved c =
    let less : c.loop-base.base-index < length c.args.bases.now = c.loop-base-test.true in
    let one = c.in_ok-mark.ensures in (
      more_markings c.args.bases.now c.args.marked.now.items c.args.waiting.now.items c.loop-base.marked.items c.loop-base.waiting.items _ c.mark.new.marked.items c.mark.new.waiting.items
          c.loop-base.invariant.0 (Contains-get_or c.args.bases.now c.loop-base.base-index 0 less) one,
      All-more (λ base. is_marked c.mark.new.marked.items base ≡ true) c.args.bases.now c.loop-base.base-index 0 less
          (all_more c.loop-base.marked.items c.loop-base.waiting.items _ c.mark.new.marked.items c.mark.new.waiting.items (take c.loop-base.base-index c.args.bases.now) one c.loop-base.invariant.1) one.here,
    )
