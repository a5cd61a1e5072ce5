use Rattle.std.proofs.Common.{◌<◌, ◌+◌, length, arith}
use Rattle.iup.specs.Arcs.{Links}
use Rattle.iup.proofs.SetLemmas.{links_on, links_end, rises_on}
use Rattle.iup.proofs.sets.are_linked.Goals as goal

pub loop-next-preserved : goal.loop-next-preserved
loop-next-preserved c =
    let points = c.args.points.now in
    let deltas = c.args.deltas.now in
    let members = c.args.members.now in
    let k = c.loop-next.next-index in
    let end = c.args.first + length points in
    let inside : k < length members = omega arith in
    let rises = rises_on (c.loop-next.from + 1) (length points) k members inside c.loop-next.invariant.rises in
    record {
      inside = rises.1;
      reached = omega (arith, rises.0, c.loop-next.invariant.reached);
      rises = rises.2;
      whole = links_on points deltas c.loop-next.from end k members (Links points deltas c.args.first members end) inside (c.spans.ensures.0 c.if-not-spans.false) c.loop-next.invariant.whole;
    }

pub returns : goal.returns
returns c =
    let points = c.args.points.now in
    let deltas = c.args.deltas.now in
    let members = c.args.members.now in
    let end = c.args.first + length points in
    let whole = links_end points deltas c.loop-next.from end c.loop-next.next-index members (Links points deltas c.args.first members end) (omega arith) c.loop-next.invariant.whole in
    (λ holds. whole.0 (c.spans-2.ensures.0 holds), λ links. c.spans-2.ensures.1 (whole.1 links))
