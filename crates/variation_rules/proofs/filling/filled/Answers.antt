use Rattle.std.proofs.Common.{◌≡◌, ℕ, ◌+◌, ◌<◌, ◌≤◌, All, length, take, drop, get_or, arith}
use Rattle.std.proofs.lemmas.List.{take_more, length-append, length-take, length-drop}
use Rattle.std.proofs.lemmas.List.Elements.{All-append}
use Rattle.std.proofs.lemmas.List.Sums.{sum_by_more, sum_by_more_le}
use Rattle.variation_rules.specs.DrawnOutline.{named_delta}
use Rattle.variation_rules.specs.FontUnits.{AreFWords}
use Rattle.variation_rules.specs.InferredDelta.{FillsContour}
use Rattle.variation_rules.specs.PointDelta.{given_at}
use Rattle.variation_rules.proofs.FillingLemmas.{contours_push, contour_of_contours, contour_from_cut, cut_from_contour}
use Rattle.variation_rules.proofs.filling.filled.Goals as goal

-- filled contours would have this one filled
pub returns-in-None-clause-value : goal.returns-in-None-clause-value
returns-in-None-clause-value c deltas fills =
    let points = c.args.points.now in
    let lengths = c.args.lengths.now in
    let given = c.deref.result.now in
    let named = named_delta c.args.tuple.now.points c.args.tuple.now.deltas in
    let i = c.loop-length.length-index in
    let start = c.loop-length.start in
    let n = c.from.result in
    let inside : start + n ≤ length points = omega (arith, sum_by_more_le (λ k. k) lengths i 0 (omega arith)) in
    let same : length given ≡ length points = rw c.deref.ensures.value c.in_ok-given.ensures.count in
    let each : (k : ℕ) → k < length points → given_at given k ≡ named k = rw c.deref.ensures.value c.in_ok-given.ensures.each in
    let part = contour_of_contours lengths i start points named deltas (omega arith) c.loop-length.invariant.whole fills in
    let none = rw c.in-None.is at c.in_ok-contour.ensures.value in
    none part.0 (cut_from_contour points given named start n same each inside part.0 (rw c.from.ensures part.1))

-- one contour more is filled
pub loop-length-preserved : goal.loop-length-preserved
loop-length-preserved c =
    let points = c.args.points.now in
    let lengths = c.args.lengths.now in
    let given = c.deref.result.now in
    let named = named_delta c.args.tuple.now.points c.args.tuple.now.deltas in
    let i = c.loop-length.length-index in
    let start = c.loop-length.start in
    let n = c.from.result in
    let before = c.loop-length.deltas.items in
    let new = c.in-Some.contour.items in
    let last : n ≡ get_or lengths i 0 = c.from.ensures in
    let inside : start + n ≤ length points = omega (arith, sum_by_more_le (λ k. k) lengths i 0 (omega arith)) in
    let same : length given ≡ length points = rw c.deref.ensures.value c.in_ok-given.ensures.count in
    let each : (k : ℕ) → k < length points → given_at given k ≡ named k = rw c.deref.ensures.value c.in_ok-given.ensures.each in
    let contour : FillsContour (take n (drop start points)) (λ k. named (start + k)) new = contour_from_cut points given named start n same each inside new (rw c.in-Some.is at c.in_ok-contour.ensures.value) in
    let words : All AreFWords new = rw c.in-Some.is at c.in_ok-contour.ensures.within in
    let count : length new ≡ n = omega (arith, contour.one_each, length-take n (drop start points), length-drop start points) in
    rw (c.in_ok-extend_from_slice-in-Some.ensures.items, c.deref-in-Some.ensures.value) (record {
      whole = omega (arith, sum_by_more (λ k. k) lengths i 0 (omega arith));
      count = omega (arith, length-append before new);
      fills = rw (take_more lengths i 0 (omega arith), ← last) (contours_push (take i lengths) start n points named before new c.loop-length.invariant.whole c.loop-length.invariant.count c.loop-length.invariant.fills contour);
      within = All-append AreFWords before new c.loop-length.invariant.within words;
    })
