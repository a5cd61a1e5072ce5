use Rattle.std.proofs.Common.{◌≡◌, ◌+◌, List, ℕ, Vec, Global, length, ap, subst}
use Rattle.std.proofs.lemmas.Result.{IfOk-weaker}
use Rattle.iup.specs.Arcs.{IsLeastSet}
use Rattle.iup.specs.Bounds.{Reaches}
use Rattle.iup_optimal.specs.Rows.{IsRowBack}
use Rattle.iup_optimal.specs.Ways.{Walks}
use Rattle.iup_optimal.proofs.LeastLemmas.{least_from_walk}
use Rattle.iup_optimal.proofs.way.least_set.Goals as goal
use Rattle.iup_optimal.proofs.way.least_set.Goals.{After-drop-left}

-- the walk from the first member is the least set
walked : (c : After-drop-left) (set : Vec ℕ Global) → Walks (Reaches c.args.table.now.points.now c.args.table.now.deltas.now) c.deref.result.now (c.args.rounds.first + length c.args.table.now.points.now) c.args.rounds.first set.items → IsLeastSet c.args.table.now.points.now c.args.table.now.deltas.now set.items × (length set.items ≡ c.args.rounds.size)
walked c set walk =
    let points = c.args.table.now.points.now in
    let deltas = c.args.table.now.deltas.now in
    let first = c.args.rounds.first in
    let left = c.in_ok-left.left.items in
    let end : first + c.len.result ≡ first + length points = ap (λ (k : ℕ). first + k) c.len.ensures in
    let back = subst (λ (e : ℕ). IsRowBack (Reaches points deltas) e left) end c.in_ok-left.ensures.row in
    let own = subst (λ (xs : List ℕ). Walks (Reaches points deltas) xs (first + length points) first set.items) c.deref.ensures.value walk in
    least_from_walk points deltas c.args.rounds.size first left c.args.table.now.contour.same c.requires.moves c.requires.best.fewest c.requires.best.first c.in_ok-left.ensures.size back set.items own

pub returns-clause-set : goal.returns-clause-set
returns-clause-set c =
    let points = c.args.table.now.points.now in
    let deltas = c.args.table.now.deltas.now in
    let first = c.args.rounds.first in
    IfOk-weaker c.walk.result (λ (set : Vec ℕ Global). Walks (Reaches points deltas) c.deref.result.now (first + length points) first set.items) (λ (set : Vec ℕ Global). IsLeastSet points deltas set.items)
    (λ (set : Vec ℕ Global) walk. (walked c set walk).0) c.walk.ensures

pub returns-clause-size : goal.returns-clause-size
returns-clause-size c =
    let points = c.args.table.now.points.now in
    let deltas = c.args.table.now.deltas.now in
    let first = c.args.rounds.first in
    IfOk-weaker c.walk.result (λ (set : Vec ℕ Global). Walks (Reaches points deltas) c.deref.result.now (first + length points) first set.items) (λ (set : Vec ℕ Global). length set.items ≡ c.args.rounds.size)
    (λ (set : Vec ℕ Global) walk. (walked c set walk).1) c.walk.ensures
