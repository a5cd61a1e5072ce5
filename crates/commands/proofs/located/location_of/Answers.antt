use Rattle.std.proofs.Common.{sym, rules}
use Rattle.commands.proofs.WordLemmas.{loop_more, loop_none, end_some, end_none}
use Rattle.commands.proofs.located.location_of.Goals as goal

pub loop-first-preserved : goal.loop-first-preserved
loop-first-preserved c = (search rules, loop_more c.args.text.now c.loop-first.rest.now _ _ _ _ c.loop-first.invariant.1 c.in-Some.ensures.cases c.in_ok-add_coordinate.ensures.0)

pub returns-in_err-add_coordinate : goal.returns-in_err-add_coordinate
returns-in_err-add_coordinate c = rw c.from_residual.ensures (sym (loop_none c.args.text.now c.loop-first.rest.now _ _ _ c.loop-first.invariant.1 c.in-Some.ensures.cases c.in_err-add_coordinate.ensures))

pub returns-in_err-add_coordinate-2 : goal.returns-in_err-add_coordinate-2
returns-in_err-add_coordinate-2 c =
    rw c.from_residual-in_err-add_coordinate-2.ensures (sym (end_none c.args.text.now c.loop-first.rest.now _ c.loop-first.invariant.1 c.in_default.ensures.cases c.in_err-add_coordinate-2.ensures))

pub returns : goal.returns
returns c =
    end_some c.args.text.now c.loop-first.rest.now _ _ c.loop-first.invariant.1 c.in_default.ensures.cases c.in_ok-add_coordinate-2.ensures.0 c.in_ok-add_coordinate-2.ensures.1
