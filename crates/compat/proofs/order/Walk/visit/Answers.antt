use Rattle.std.proofs.Common.{sym}
use Rattle.compat.proofs.Steps.{visit_begins, last_known, at_rest}
use Rattle.compat.proofs.order.Walk.visit.Goals as goal

pub loop-top-init : goal.loop-top-init
loop-top-init c =
    let opened = c.in_ok-open.ensures in
    visit_begins c.args.graph.now c.args.self.now.nodes.items c.args.self.now.path.items c.args.self.now.order.items c.args.root c.requires.walk c.requires.at_rest c.requires.known c.requires.fresh
    c.open.new.self.nodes.items c.open.new.self.path.items c.open.new.self.order.items opened.nodes opened.path opened.order

pub step-requires-clause-known : goal.step-requires-clause-known
step-requires-clause-known c = last_known c.args.graph.now c.loop-top.self.nodes.items c.loop-top.self.path.items c.loop-top.self.order.items c.in-Some.top c.loop-top.invariant.0 (sym c.in-Some.ensures)

pub returns : goal.returns
returns c = record {
  walk = c.loop-top.invariant.0;
  at_rest = at_rest c.loop-top.self.path.items (sym c.in_default.ensures);
  seen = c.loop-top.invariant.1;
  root_seen = c.loop-top.invariant.2;
}
