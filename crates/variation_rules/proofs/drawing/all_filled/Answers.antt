use Rattle.std.proofs.Common.{◌≡◌, All, List, length, take, arith}
use Rattle.std.proofs.lemmas.List.{length_push, take_more}
use Rattle.std.proofs.lemmas.List.Elements.{All-push}
use Rattle.fixpoint.specs.declared.plane.Pair.{Pair}
use Rattle.variation_rules.specs.DrawnOutline.{named_delta, FillsContours}
use Rattle.variation_rules.specs.FontUnits.{AreFWords}
use Rattle.variation_rules.proofs.FillingLemmas.{contours_count, fills_push, fill_of_fills}
use Rattle.variation_rules.proofs.drawing.all_filled.Goals as goal

-- fills of all tuples would have one of this tuple
pub returns-in-None-clause-value : goal.returns-in-None-clause-value
returns-in-None-clause-value c fills are =
    let fill = fill_of_fills c.args.lengths.now c.args.points.now c.args.tuples.now fills c.loop-tuple.tuple-index c.tuple-item.result (omega arith) c.tuple-item.is are in
    let none = rw c.in-None.is at c.in_ok-deltas.ensures.value in
    none fill.0 fill.1

-- one tuple more has its deltas
pub loop-tuple-preserved : goal.loop-tuple-preserved
loop-tuple-preserved c =
    let lengths = c.args.lengths.now in
    let points = c.args.points.now in
    let tuples = c.args.tuples.now in
    let tuple = c.tuple-item.result in
    let k = c.loop-tuple.tuple-index in
    let before = c.loop-tuple.fills.items in
    let deltas = c.in-Some.deltas.items in
    let fills : FillsContours lengths points (named_delta tuple.points tuple.deltas) deltas = rw c.in-Some.is at c.in_ok-deltas.ensures.value in
    let words : All AreFWords deltas = rw c.in-Some.is at c.in_ok-deltas.ensures.within in
    rw (c.in_ok-push-in-Some.ensures.items, c.from_vec.ensures) (record {
      fills = rw (take_more tuples k tuple (omega arith), ← c.tuple-item.is) (fills_push lengths points (take k tuples) before tuple deltas c.loop-tuple.invariant.fills fills);
      same = omega (arith, length_push before deltas);
      counts = All-push (λ (fill : List Pair). length fill ≡ length points) before deltas c.loop-tuple.invariant.counts (contours_count lengths points (named_delta tuple.points tuple.deltas) deltas c.requires.whole fills);
      within = All-push (λ (fill : List Pair). All AreFWords fill) before deltas c.loop-tuple.invariant.within words;
    })
