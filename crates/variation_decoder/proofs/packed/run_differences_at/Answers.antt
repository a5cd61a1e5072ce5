use Rattle.std.proofs.lemmas.Result.{err_from_is_err_and}
use Rattle.variation_decoder.specs.Reading.{many}
use Rattle.variation_decoder.specs.Points.{difference_at}
use Rattle.variation_decoder.proofs.Loops.{many_goes_on, many_ends, many_is_done}
use Rattle.variation_decoder.proofs.packed.run_differences_at.Goals as goal

pub returns-in_err-difference : goal.returns-in_err-difference
returns-in_err-difference c =
    let p = err_from_is_err_and c.from_residual.result c.from_residual.ensures.1 in
    rw (p.1, p.2) (many_ends (difference_at c.args.class) c.in_err-difference.field-0.0 c.loop.differences c.args.count c.loop.counter c.loop.rest.now (many (difference_at c.args.class) c.args.count c.args.bytes.now) c.loop-test.true c.in_err-difference.ensures c.loop.invariant)

pub loop-preserved : goal.loop-preserved
loop-preserved c =
    rw c.in_ok-push.ensures.ok (many_goes_on (difference_at c.args.class) c.loop.differences c.args.count c.loop.counter c.loop.rest.now c.in_ok-difference.difference c.in_ok-difference.after.now (many (difference_at c.args.class) c.args.count c.args.bytes.now) c.loop-test.true c.in_ok-difference.ensures c.loop.invariant)

pub returns : goal.returns
returns c = many_is_done (difference_at c.args.class) c.loop.differences c.args.count c.loop.counter c.loop.rest.now (many (difference_at c.args.class) c.args.count c.args.bytes.now) c.loop-test.false c.loop.invariant
