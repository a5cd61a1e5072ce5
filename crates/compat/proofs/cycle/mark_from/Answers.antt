use Rattle.compat.proofs.Spreading.{spreading_begins, spreads, waits_known}
use Rattle.compat.proofs.cycle.mark_from.Goals as goal

pub loop-next-init : goal.loop-next-init
loop-next-init c =
    spreading_begins c.args.graph.now c.args.root c.args.marked.now.items c.mark.new.marked.items c.new-waiting.result.items c.mark.new.waiting.items
    c.requires.known c.requires.marks c.requires.settled c.new-waiting.ensures.items c.in_ok-mark.ensures

pub mark_bases-requires-clause-known : goal.mark_bases-requires-clause-known
mark_bases-requires-clause-known c =
    let pop = c.in-Some.ensures in
    waits_known c.args.graph.now c.loop-next.marked.items c.loop-next.waiting.items c.pop.new.self.items c.in-Some.next c.loop-next.invariant pop.items

pub loop-next-preserved : goal.loop-next-preserved
loop-next-preserved c =
    let pop = c.in-Some.ensures in
    let marking = c.in_ok-mark_bases.ensures in
    spreads c.args.graph.now c.loop-next.marked.items c.loop-next.waiting.items c.pop.new.self.items c.in-Some.next c.mark_bases.new.marked.items c.mark_bases.new.waiting.items
    c.requires.closed c.loop-next.invariant pop.items marking.marking marking.all
