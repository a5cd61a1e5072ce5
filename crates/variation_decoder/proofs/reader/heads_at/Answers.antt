use Rattle.std.proofs.lemmas.Result.{err_from_is_err_and}
use Rattle.variation_decoder.specs.Reading.{many}
use Rattle.variation_decoder.specs.Tuples.{header_at}
use Rattle.variation_decoder.proofs.Loops.{many_goes_on, many_ends, many_is_done}
use Rattle.variation_decoder.proofs.reader.heads_at.Goals as goal

pub returns-in_err-head : goal.returns-in_err-head
returns-in_err-head c =
    let p = err_from_is_err_and c.from_residual.result c.from_residual.ensures.1 in
    rw (p.1, p.2) (many_ends (header_at c.args.axes c.args.peaks.now) c.in_err-head.field-0.0 c.loop.heads c.args.count c.loop.counter c.loop.rest.now (many (header_at c.args.axes c.args.peaks.now) c.args.count c.args.bytes.now) c.loop-test.true c.in_err-head.ensures c.loop.invariant)

pub loop-preserved : goal.loop-preserved
loop-preserved c =
    rw c.in_ok-push.ensures.ok (many_goes_on (header_at c.args.axes c.args.peaks.now) c.loop.heads c.args.count c.loop.counter c.loop.rest.now c.in_ok-head.head c.in_ok-head.after.now (many (header_at c.args.axes c.args.peaks.now) c.args.count c.args.bytes.now) c.loop-test.true c.in_ok-head.ensures c.loop.invariant)

pub returns : goal.returns
returns c = many_is_done (header_at c.args.axes c.args.peaks.now) c.loop.heads c.args.count c.loop.counter c.loop.rest.now (many (header_at c.args.axes c.args.peaks.now) c.args.count c.args.bytes.now) c.loop-test.false c.loop.invariant
