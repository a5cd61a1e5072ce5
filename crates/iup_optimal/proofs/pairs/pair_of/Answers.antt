use Rattle.std.proofs.Common.{◌≡◌, ◌+◌, ◌<◌, ◌≤◌, length, subst, ⊎_elim, arith}
use Rattle.std.proofs.lemmas.Bool.{cases_lt}
use Rattle.iup.specs.Bounds.{Reaches}
use Rattle.iup_optimal.specs.Tables.{IsNearestEnd}
use Rattle.iup_optimal.proofs.pairs.pair_of.Goals as goal

pub returns-then-len-second : goal.returns-then-len-second
returns-then-len-second c v pair =
    let found : IsNearestEnd c.args.table.now.points.now c.args.table.now.deltas.now c.args.first c.loop-second.low c.in-Some.second = c.in-Some.ensures in
    ⊎_elim
    (λ (seen : v < c.loop-second.low). c.loop-second.invariant.none v seen pair)
    (λ (later : c.loop-second.low ≤ v). found.nearest v later (omega (arith, pair.inside)) pair.first)
    (cases_lt v c.loop-second.low)

pub returns-then-reaches : goal.returns-then-reaches
returns-then-reaches c =
    let points = c.args.table.now.points.now in
    let deltas = c.args.table.now.deltas.now in
    let n = length points in
    let second = c.in-Some.second in
    let found : IsNearestEnd points deltas c.args.first c.loop-second.low second = c.in-Some.ensures in
    let low = c.loop-second.invariant.after in
    let after = found.not_before in
    let end : c.args.first + c.len-in-Some.result ≡ c.args.first + n = omega (arith, c.len-in-Some.ensures) in
    record {
      pair = record {
        order = omega arith;
        inside = omega (arith, c.if-len-second.false, c.len.ensures);
        first = found.reach;
        second = subst (λ x. Reaches points deltas second x) end (c.reaches.ensures.0 c.if-reaches.true);
      };
      nearest = λ y pair. ⊎_elim
          (λ (seen : y < c.loop-second.low). absurd (c.loop-second.invariant.none y seen pair))
          (λ (later : c.loop-second.low ≤ y). ⊎_elim
          (λ (nearer : y < second). absurd (found.nearest y later nearer pair.first))
          (λ (not_nearer : second ≤ y). not_nearer)
          (cases_lt y second))
          (cases_lt y c.loop-second.low);
    }

pub loop-second-preserved : goal.loop-second-preserved
loop-second-preserved c =
    let points = c.args.table.now.points.now in
    let deltas = c.args.table.now.deltas.now in
    let n = length points in
    let second = c.in-Some.second in
    let found : IsNearestEnd points deltas c.args.first c.loop-second.low second = c.in-Some.ensures in
    let low = c.loop-second.invariant.after in
    let after = found.not_before in
    let end : c.args.first + n ≡ c.args.first + c.len-in-Some.result = omega (arith, c.len-in-Some.ensures) in
    record {
      after = omega arith;
      within = omega (arith, c.if-len-second.false, c.len.ensures);
      none = λ v below pair. ⊎_elim
          (λ (seen : v < c.loop-second.low). c.loop-second.invariant.none v seen pair)
          (λ (later : c.loop-second.low ≤ v). ⊎_elim
          (λ (nearer : v < second). found.nearest v later nearer pair.first)
          (λ (not_nearer : second ≤ v).
          let here : v ≡ second = omega arith in
          let rest : Reaches points deltas second (c.args.first + n) = subst (λ x. Reaches points deltas x (c.args.first + n)) here pair.second in
          let tested = c.reaches.ensures.1 (subst (λ x. Reaches points deltas second x) end rest) in
          absurd cc)
          (cases_lt v second))
          (cases_lt v c.loop-second.low);
    }

pub returns : goal.returns
returns c v pair =
    ⊎_elim
    (λ (seen : v < c.loop-second.low). c.loop-second.invariant.none v seen pair)
    (λ (later : c.loop-second.low ≤ v). c.in_default.ensures v later pair.first)
    (cases_lt v c.loop-second.low)
