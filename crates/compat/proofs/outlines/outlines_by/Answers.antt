use Rattle.std.proofs.Common.{◌∙◌, ap, subst, sym}
use Rattle.std.specs.Prelude.{All}
use Rattle.compat.specs.References.{IsClosed, IsOrder, IsFirstOnCycle, HasNoCycle}
use Rattle.compat.specs.Flattened.{cycle}
use Rattle.compat.specs.Flats.{IsCounted, fault_from}
use Rattle.compat.proofs.Made.{closed_references}
use Rattle.compat.proofs.Faults.{no_cycle, all_counted, all_few, first_refusal, are_flattened}
use Rattle.compat.proofs.outlines.outlines_by.Goals as goal

pub order_of-requires : goal.order_of-requires
order_of-requires c = subst IsClosed (sym c.requires.references) (closed_references c.args.drawings.now)

pub first_on_cycle-requires-clause-closed : goal.first_on_cycle-requires-clause-closed
first_on_cycle-requires-clause-closed c = subst IsClosed (sym c.requires.references) (closed_references c.args.drawings.now)

pub returns-in_default : goal.returns-in_default
returns-in_default c = cycle c.requires.named (subst (λ graph. IsFirstOnCycle graph c.in_ok-drawing.drawing) c.requires.references c.in_ok-drawing.ensures)

pub first_fault-requires : goal.first_fault-requires
first_fault-requires c = subst (All IsCounted) (sym c.as_slice-2.ensures.value) (all_counted c.args.drawings.now c.in_ok-flats.flats.items c.in_ok-flats.ensures)

pub returns-in-Some-first_fault : goal.returns-in-Some-first_fault
returns-in-Some-first_fault c =
    let order : IsOrder c.args.graph.now c.in-Some.order.items = rw c.in-Some.is at c.in_ok-order.ensures in
    let acyclic = subst HasNoCycle c.requires.references (no_cycle c.args.graph.now c.in-Some.order.items order) in
    first_refusal c.args.drawings.now c.in_ok-flats.flats.items c.in-Some-first_fault.refusal c.in_ok-flats.ensures c.requires.named acyclic
    (ap (fault_from 0) (sym c.as_slice-2.ensures.value) ∙ sym c.in-Some-first_fault.ensures)

pub outlines_of-requires-clause-few : goal.outlines_of-requires-clause-few
outlines_of-requires-clause-few c =
    all_few c.args.drawings.now c.in_ok-flats.flats.items c.in_ok-flats.ensures (ap (fault_from 0) (sym c.as_slice-2.ensures.value) ∙ sym c.in_default-first_fault.ensures)

pub returns : goal.returns
returns c =
    let order : IsOrder c.args.graph.now c.in-Some.order.items = rw c.in-Some.is at c.in_ok-order.ensures in
    let acyclic = subst HasNoCycle c.requires.references (no_cycle c.args.graph.now c.in-Some.order.items order) in
    are_flattened c.args.drawings.now c.in_ok-flats.flats.items c.in_ok-outlines_of.field-0 c.in_ok-flats.ensures c.requires.named acyclic
    (ap (fault_from 0) (sym c.as_slice-2.ensures.value) ∙ sym c.in_default-first_fault.ensures) c.in_ok-outlines_of.ensures
