use Rattle.std.proofs.Common.{arith}
use Rattle.iup.proofs.ArcLemmas.{spans_from, spans_to}
use Rattle.iup.proofs.sets.spans.Goals as goal

pub returns : goal.returns
returns c = (
  λ holds. spans_from c.args.points.now c.args.deltas.now c.args.from c.args.to (omega arith) (c.arc_holds.ensures.0 holds),
  λ spans. c.arc_holds.ensures.1 (spans_to c.args.points.now c.args.deltas.now c.args.from c.args.to (omega arith) spans),
)
