use Rattle.std.proofs.Common.{◌∙◌, ap, sym}
use Rattle.std.specs.List.{list_any}
use Rattle.vfb.proofs.ChoosingLemmas.{only_none, only_one, only_two, others_seen}
use Rattle.vfb.proofs.choosing.take_only.Goals as goal

pub returns-in_err-filter-clause-taken : goal.returns-in_err-filter-clause-taken
returns-in_err-filter-clause-taken g c = rw c.from_residual.ensures (only_none _ c.args.name.now c.args.handed.now.items c.in_err-filter.ensures.taken)

pub returns-then-is_there-clause-taken : goal.returns-then-is_there-clause-taken
returns-then-is_there-clause-taken g c =
    only_two _ c.args.name.now c.args.handed.now.items c.take_called.new.filters.items c.in_ok-filter.filter c.in_ok-filter.ensures.taken c.in_ok-filter.ensures.others
    (ap (list_any _) (sym c.as_slice.ensures.value) ∙ sym c.if-is_there.ensures)

pub returns-clause-taken : goal.returns-clause-taken
returns-clause-taken g c =
    only_one _ c.args.name.now c.args.handed.now.items c.take_called.new.filters.items c.in_ok-filter.filter c.in_ok-filter.ensures.taken c.in_ok-filter.ensures.others
    (ap (list_any _) (sym c.as_slice.ensures.value) ∙ sym c.if-is_there.ensures)

pub returns-clause-others : goal.returns-clause-others
returns-clause-others g c = others_seen _ c.args.name.now c.args.handed.now.items c.take_called.new.filters.items c.in_ok-filter.ensures.others
