use Rattle.std.proofs.Common.{sym}
use Rattle.compat.proofs.Tours.{closes, next_known, on_ok, step_opens, two_ok}
use Rattle.compat.proofs.order.Walk.step_on.Goals as goal

pub returns-in_default : goal.returns-in_default
returns-in_default c =
    on_ok c.close.result c.close.ensures.nodes c.close.ensures.path c.close.ensures.order
    (closes c.args.graph.now c.args.self.now.nodes.items c.args.self.now.path.items c.args.self.now.order.items c.requires.tour c.args.top c.requires.known
    c.close.new.self.nodes.items c.close.new.self.path.items c.close.new.self.order.items)

pub returns-in-New : goal.returns-in-New
returns-in-New c =
    two_ok c.open.result c.open.ensures.nodes c.open.ensures.path
    (λ nodes path. step_opens c.args.graph.now c.args.self.now.nodes.items c.args.self.now.path.items c.args.self.now.order.items c.requires.tour c.in-Some.base
    (next_known c.args.graph.now c.args.self.now.nodes.items c.args.self.now.path.items c.args.self.now.order.items c.args.top c.in-Some.base c.requires.tour c.requires.closed c.requires.known c.in-Some.ensures)
    c.open.new.self.nodes.items c.open.new.self.path.items c.open.new.self.order.items (sym c.in-New.ensures) nodes path c.open.ensures.order)
