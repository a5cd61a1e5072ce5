use Rattle.std.proofs.Common.{sym}
use Rattle.compat.proofs.Steps.{step_looks, step_opens, step_closes, step_cycle}
use Rattle.compat.proofs.order.Walk.step.Goals as goal

pub returns-in_default : goal.returns-in_default
returns-in_default c =
    let close = c.in_ok-close.ensures in
    step_closes c.args.graph.now c.args.self.now.nodes.items c.args.self.now.path.items c.args.self.now.order.items c.args.top c.requires.walk c.requires.closed c.requires.known c.in_default.ensures
    c.close.new.self.nodes.items c.close.new.self.path.items c.close.new.self.order.items close.nodes close.path close.order

pub returns-in-Done : goal.returns-in-Done
returns-in-Done c =
    step_looks c.args.graph.now c.args.self.now.nodes.items c.args.self.now.path.items c.args.self.now.order.items c.args.top c.in-Some.base c.requires.walk c.requires.known c.in-Some.ensures (sym c.in-Done.ensures)
    c.look.new.self.nodes.items c.look.new.self.path.items c.look.new.self.order.items c.look.ensures.nodes c.look.ensures.path c.look.ensures.order

pub returns-in_ok-open-in-New : goal.returns-in_ok-open-in-New
returns-in_ok-open-in-New c =
    let opened = c.in_ok-open-in-New.ensures in
    step_opens c.args.graph.now c.args.self.now.nodes.items c.args.self.now.path.items c.args.self.now.order.items c.args.top c.in-Some.base c.requires.walk c.requires.closed c.requires.last c.requires.known c.in-Some.ensures (sym c.in-New.ensures)
    c.open.new.self.nodes.items c.open.new.self.path.items c.open.new.self.order.items opened.nodes opened.path opened.order

pub returns-in-Open : goal.returns-in-Open
returns-in-Open c =
    step_cycle c.args.graph.now c.args.self.now.nodes.items c.args.self.now.path.items c.args.self.now.order.items c.args.top c.in-Some.base c.requires.walk c.requires.closed c.requires.last c.requires.known c.in-Some.ensures (sym c.in-Open.ensures)
