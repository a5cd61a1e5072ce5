use Rattle.std.proofs.Common.{◌≡◌, ◌+◌, ◌∷◌, [], List, ℕ, Vec, Global, length, sym, subst, arith}
use Rattle.std.proofs.lemmas.Result.{IfOk-weaker}
use Rattle.iup.specs.Arcs.{IsLeastSet}
use Rattle.iup.specs.Bounds.{Reaches}
use Rattle.iup_optimal.specs.Ways.{IsFewest}
use Rattle.iup_optimal.proofs.PairLemmas.{least_one, least_two, fewest_two}
use Rattle.iup_optimal.proofs.search.set_of_arcs.Goals as goal

pub returns-then-reaches-clause-set : goal.returns-then-reaches-clause-set
returns-then-reaches-clause-set c =
    let points = c.args.table.now.points.now in
    let deltas = c.args.table.now.deltas.now in
    let items : c.push.new.self.items ≡ 0 ∷ [] = cc (c.in_ok-push.ensures.items, c.new-set.ensures.items) in
    let end : c.len.result ≡ 0 + length points = omega (arith, c.len.ensures) in
    let reach = subst (λ (k : ℕ). Reaches points deltas 0 k) end (c.reaches.ensures.0 c.if-reaches.true) in
    subst (λ (xs : List ℕ). IsLeastSet points deltas xs) (sym items) (least_one points deltas c.requires.moves c.args.table.now.contour.some reach.spans)

-- the first point doesn't span the round alone
not_alone : (c : goal.After-pair) → Reaches c.args.table.now.points.now c.args.table.now.deltas.now 0 (0 + length c.args.table.now.points.now) → ⊥
not_alone c reach =
    let points = c.args.table.now.points.now in
    let end : 0 + length points ≡ c.len.result = omega (arith, c.len.ensures) in
    let tested = c.reaches.ensures.1 (subst (λ (k : ℕ). Reaches points c.args.table.now.deltas.now 0 k) end reach) in
    absurd cc

pub returns-in-Some-clause-set : goal.returns-in-Some-clause-set
returns-in-Some-clause-set c =
    let points = c.args.table.now.points.now in
    let deltas = c.args.table.now.deltas.now in
    let w = c.in-Some.first in
    let v = c.in-Some.second in
    let least = least_two points deltas w v c.args.table.now.contour.same c.requires.moves (not_alone c) c.in-Some.ensures in
    IfOk-weaker c.pair.result (λ (set : Vec ℕ Global). set.items ≡ w ∷ v ∷ []) (λ (set : Vec ℕ Global). IsLeastSet points deltas set.items)
    (λ (set : Vec ℕ Global) is. subst (λ (xs : List ℕ). IsLeastSet points deltas xs) (sym is) least) c.pair.ensures

pub returns-in-Some-clause-size : goal.returns-in-Some-clause-size
returns-in-Some-clause-size c =
    let points = c.args.table.now.points.now in
    let deltas = c.args.table.now.deltas.now in
    let w = c.in-Some.first in
    let v = c.in-Some.second in
    let fewest = fewest_two points deltas w v c.args.table.now.contour.same (not_alone c) c.in-Some.ensures.pair in
    IfOk-weaker c.pair.result (λ (set : Vec ℕ Global). set.items ≡ w ∷ v ∷ []) (λ (set : Vec ℕ Global). IsFewest (Reaches points deltas) (length points) (length set.items))
    (λ (set : Vec ℕ Global) is. subst (λ (xs : List ℕ). IsFewest (Reaches points deltas) (length points) (length xs)) (sym is) fewest) c.pair.ensures
