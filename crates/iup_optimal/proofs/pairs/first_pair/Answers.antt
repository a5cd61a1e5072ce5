use Rattle.std.proofs.Common.{◌≡◌, ◌<◌, ◌≤◌, inl, inr, sym, subst, ⊎_elim, arith}
use Rattle.std.proofs.lemmas.Bool.{cases_lt}
use Rattle.iup_optimal.specs.Steps.{Steps, count}
use Rattle.iup_optimal.specs.Pairs.{IsPair, IsNearestPair}
use Rattle.iup_optimal.proofs.pairs.first_pair.Goals as goal

pub returns-in-Some : goal.returns-in-Some
returns-in-Some c =
    let table = c.args.table.now in
    let w = c.loop-first.first in
    let found : IsNearestPair (Steps table) (count table) w c.in-Some.second = c.in-Some.ensures in
    record {
      pair = found.pair;
      first = λ x y pair. ⊎_elim
          (λ (seen : x < w). absurd (c.loop-first.invariant x y seen pair))
          (λ (not_seen : w ≤ x). ⊎_elim
          (λ (later : w < x). inl later)
          (λ (not_later : x ≤ w).
          let here : x ≡ w = omega arith in
          inr (sym here, found.nearest y (subst (λ z. IsPair (Steps table) (count table) z y) here pair)))
          (cases_lt w x))
          (cases_lt x w);
    }

pub loop-first-preserved : goal.loop-first-preserved
loop-first-preserved c x y below pair =
    let table = c.args.table.now in
    let w = c.loop-first.first in
    ⊎_elim
    (λ (seen : x < w). c.loop-first.invariant x y seen pair)
    (λ (not_seen : w ≤ x).
    let here : x ≡ w = omega arith in
    c.in_default.ensures y (subst (λ z. IsPair (Steps table) (count table) z y) here pair))
    (cases_lt x w)

pub returns : goal.returns
returns c x y pair = c.loop-first.invariant x y (omega (arith, pair.order, pair.inside, c.loop-first-test.false, c.len-first-end.ensures)) pair
