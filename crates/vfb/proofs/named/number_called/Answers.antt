use Rattle.std.proofs.Common.{sym}
use Rattle.vfb.proofs.Firsts.{none_passed, one_passed, found, not_found}
use Rattle.vfb.proofs.named.number_called.Goals as goal

pub loop-number-init : goal.loop-number-init
loop-number-init g c = none_passed _ _

pub loop-number-preserved : goal.loop-number-preserved
loop-number-preserved g c =
    one_passed _ c.args.filters.now c.loop-number.number c.index-filters-number.result c.loop-number.invariant c.loop-number-test.true c.index-filters-number.is (sym c.if-is_called.ensures)

pub returns-then-is_called : goal.returns-then-is_called
returns-then-is_called g c =
    found _ c.args.filters.now c.loop-number.number c.index-filters-number.result c.loop-number.invariant c.loop-number-test.true c.index-filters-number.is (sym c.if-is_called.ensures)

pub returns : goal.returns
returns g c = not_found _ _ _ c.loop-number.invariant c.loop-number-test.false
