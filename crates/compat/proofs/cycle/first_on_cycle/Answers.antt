use Rattle.std.proofs.Common.{arith}
use Rattle.compat.proofs.Marking.{reaches_known}
use Rattle.compat.proofs.cycle.first_on_cycle.Goals as goal

pub unreachable-requires : goal.unreachable-requires
unreachable-requires c =
    let cycle = c.requires.cycle in
    let known = reaches_known c.args.graph.now cycle.1 in
    c.loop-number.invariant cycle.0 (omega (arith, known, c.loop-number-test.false)) cycle.1
