use Rattle.std.proofs.lemmas.Result.{err_from_is_err_and}
use Rattle.variation_decoder.specs.Tuples.{tuples_at}
use Rattle.variation_decoder.proofs.Parts.{tuples_go_on, tuples_end, tuples_are_done}
use Rattle.variation_decoder.proofs.reader.tuples_at.Goals as goal

pub returns-in_err-tuple : goal.returns-in_err-tuple
returns-in_err-tuple c =
    let p = err_from_is_err_and c.from_residual.result c.from_residual.ensures.1 in
    rw (p.1, p.2) (tuples_end c.args.total c.args.shared.now c.args.heads.now c.in_err-tuple.field-0.0 c.loop-head.tuples c.loop-head.head-index c.head-item.result c.loop-head.rest.now (tuples_at c.args.total c.args.shared.now c.args.heads.now c.args.bytes.now) c.loop-head-test.true c.head-item.is c.in_err-tuple.ensures c.loop-head.invariant)

pub loop-head-preserved : goal.loop-head-preserved
loop-head-preserved c =
    rw c.in_ok-push.ensures.ok (tuples_go_on c.args.total c.args.shared.now c.args.heads.now c.loop-head.tuples c.loop-head.head-index c.head-item.result c.loop-head.rest.now c.in_ok-tuple.tuple c.in_ok-tuple.after.now (tuples_at c.args.total c.args.shared.now c.args.heads.now c.args.bytes.now) c.loop-head-test.true c.head-item.is c.in_ok-tuple.ensures c.loop-head.invariant)

pub returns : goal.returns
returns c = tuples_are_done c.args.total c.args.shared.now c.args.heads.now c.loop-head.tuples c.loop-head.head-index c.loop-head.rest.now (tuples_at c.args.total c.args.shared.now c.args.heads.now c.args.bytes.now) c.loop-head-test.false c.loop-head.invariant
