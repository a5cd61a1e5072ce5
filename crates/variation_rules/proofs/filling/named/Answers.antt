use Rattle.std.proofs.Common.{drop, sym, ◌∙◌, arith}
use Rattle.std.proofs.lemmas.List.{length-drop}
use Rattle.variation_rules.proofs.DrawingLemmas.{named_further, named_end}
use Rattle.variation_rules.proofs.filling.named.Goals as goal

pub loop-k-preserved : goal.loop-k-preserved
loop-k-preserved c =
    let further = named_further c.as_slice-points.result.now c.as_slice-deltas.result.now c.loop-k.k c.args.point (omega arith) (omega arith) (λ same. c.if-from-point.false (c.from.ensures ∙ same)) in
    sym further ∙ c.loop-k.invariant

pub returns : goal.returns
returns c =
    let points = c.as_slice-points.result.now in
    let deltas = c.as_slice-deltas.result.now in
    let k = c.loop-k.k in
    let ended = named_end (drop k points) (drop k deltas) c.args.point (omega (arith, length-drop k points, length-drop k deltas)) in
    sym ended ∙ c.loop-k.invariant
