use Rattle.std.proofs.Common.{◌≡◌, ◌+◌, ◌-◌, ◌<◌, ◌≤◌, length, subst, ⊎_elim, arith}
use Rattle.std.proofs.lemmas.Bool.{cases_lt}
use Rattle.iup.specs.Arcs.{Spans}
use Rattle.iup.proofs.ArcLemmas.{spans_to}
use Rattle.iup_optimal.proofs.ViewLemmas.{view_closed}
use Rattle.iup_optimal.proofs.pairs.pair_of_zero.Goals as goal
use Rattle.iup_optimal.proofs.pairs.pair_of_zero.Goals.{else-pass-via-then-pass+else-arc_holds, else-pass-via-else-pass}

pub returns-then-is_closed : goal.returns-then-is_closed
returns-then-is_closed c v pair =
    let points = c.args.points.now in
    let deltas = c.args.deltas.now in
    let second = c.loop-second.second in
    ⊎_elim
    (λ (seen : v < second). c.loop-second.invariant.none v seen pair)
    (λ (later : second ≤ v). view_closed points deltas 0 second v c.loop-second.view c.requires c.loop-second.invariant.seen (c.is_closed.ensures c.if-is_closed.true) later pair.first.spans)
    (cases_lt v second)

pub returns-then-arc_holds : goal.returns-then-arc_holds
returns-then-arc_holds c =
    let points = c.args.points.now in
    let deltas = c.args.deltas.now in
    let n = length points in
    let second = c.loop-second.second in
    let ahead : 0 < second = omega arith in
    let before : second < n = c.loop-second-test.true in
    let first : Spans points deltas 0 second = (c.pass.ensures.holds 0 ahead c.loop-second.invariant.seen).0 c.if-pass.true in
    let back : second + (n - second) ≡ 0 + n = omega arith in
    let rest : Spans points deltas second (0 + n) = subst (λ x. Spans points deltas second x) back (c.arc_holds.ensures.0 c.if-arc_holds.true) in
    record {
      pair = record {
        order = ahead;
        inside = before;
        first = record { ahead = ahead; within = omega arith; spans = first };
        second = record { ahead = omega arith; within = omega arith; spans = rest };
      };
      nearest = λ y pair. ⊎_elim
          (λ (seen : y < second). absurd (c.loop-second.invariant.none y seen pair))
          (λ (later : second ≤ y). later)
          (cases_lt y second);
    }

pub loop-second-preserved : goal.loop-second-preserved
loop-second-preserved c =
    let points = c.args.points.now in
    let deltas = c.args.deltas.now in
    let n = length points in
    let second = c.loop-second.second in
    let ahead : 0 < second = omega arith in
    let before : second < n = c.loop-second-test.true in
    record {
      seen = c.pass.ensures.sees 0 ahead c.loop-second.invariant.seen;
      none = λ v below pair. ⊎_elim
          (λ (seen : v < second). c.loop-second.invariant.none v seen pair)
          (λ (later : second ≤ v).
          let here : v ≡ second = omega arith in
          let first : Spans points deltas 0 second = subst (λ x. Spans points deltas 0 x) here pair.first.spans in
          let end : 0 + n ≡ n = omega arith in
          let rest : Spans points deltas second n = subst (λ x. Spans points deltas second x) end (subst (λ x. Spans points deltas x (0 + n)) here pair.second.spans) in
          elim c.else-pass.branch [
            | else-pass-via-then-pass+else-arc_holds w ↦ let tested = w.arc_holds.ensures.1 (spans_to points deltas second n (omega arith) rest) in absurd cc
            | else-pass-via-else-pass w ↦ let tested = (c.pass.ensures.holds 0 ahead c.loop-second.invariant.seen).1 first in absurd cc
          ])
          (cases_lt v second);
    }

pub returns : goal.returns
returns c v pair = c.loop-second.invariant.none v (omega (arith, pair.inside, c.loop-second-test.false)) pair
