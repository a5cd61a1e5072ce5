use Rattle.std.proofs.Common.{◌≡◌, length, arith, false, replicate}
use Rattle.std.proofs.lemmas.Grind.{common_steps}
use Rattle.compat.specs.Searches.{is_marked}
use Rattle.compat.proofs.Marking.{search_begins, search_goes, found, next_known, less_work}
use Rattle.compat.proofs.cycle.reaches_itself.Goals as goal

pub loop-next-init : goal.loop-next-init
loop-next-init c =
    let marked : c.in_ok-marked.marked.items ≡ replicate (length c.args.graph.now) false = grind (arith, common_steps) in
    let waiting = c.in_ok-waiting.ensures in
    search_begins c.args.graph.now c.args.number c.in_ok-marked.marked.items c.in_ok-waiting.waiting.items c.requires.known marked waiting.items

pub mark_bases-requires-clause-known : goal.mark_bases-requires-clause-known
mark_bases-requires-clause-known c =
    let pop = c.in-Some.ensures in
    next_known c.args.graph.now c.args.number c.loop-next.marked.items c.loop-next.waiting.items c.pop.new.self.items c.in-Some.next c.loop-next.invariant pop.items

pub loop-next-preserved : goal.loop-next-preserved
loop-next-preserved c =
    let pop = c.in-Some.ensures in
    let marking = c.in_ok-mark_bases.ensures in
    search_goes c.args.graph.now c.args.number c.loop-next.marked.items c.loop-next.waiting.items c.pop.new.self.items c.in-Some.next c.mark_bases.new.marked.items c.mark_bases.new.waiting.items
    c.requires.closed c.loop-next.invariant pop.items marking.marking marking.all

pub loop-next-smaller : goal.loop-next-smaller
loop-next-smaller c =
    let pop = c.in-Some.ensures in
    let marking = c.in_ok-mark_bases.ensures in
    less_work c.loop-next.waiting.items c.pop.new.self.items c.in-Some.next _ c.loop-next.marked.items c.mark_bases.new.marked.items c.mark_bases.new.waiting.items pop.items marking.marking

pub returns : goal.returns
returns c =
    let pop = c.in_default.ensures in
    let empty : length c.loop-next.waiting.items ≡ 0 = grind (arith, common_steps, pop) in
    let mark : c.index.result.now ≡ is_marked c.loop-next.marked.items c.args.number = grind (arith, common_steps) in
    found c.args.graph.now c.args.number c.loop-next.marked.items c.loop-next.waiting.items c.index.result.now c.loop-next.invariant empty mark
