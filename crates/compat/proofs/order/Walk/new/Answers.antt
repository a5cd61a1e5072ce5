use Rattle.std.proofs.Common.{◌≡◌, arith, map}
use Rattle.std.proofs.lemmas.Grind.{common_steps}
use Rattle.compat.proofs.Steps.{fresh, begins_with}
use Rattle.compat.proofs.order.Walk.new.Goals as goal

pub returns : goal.returns
returns c =
    let nodes : c.loop-bases.nodes.items ≡ map fresh c.args.graph.now = grind (arith, common_steps) in
    (begins_with c.args.graph.now c.loop-bases.nodes.items c.new.result.items c.new-2.result.items nodes c.new.ensures.items c.new-2.ensures.items, c.new.ensures.items)
