use Rattle.std.proofs.Common.{◌≡◌, ◌+◌, [], List, ℕ, ap, subst, length, append-nil, arith}
use Rattle.iup.specs.Bounds.{Reaches}
use Rattle.iup_optimal.specs.Ways.{Walks}
use Rattle.iup_optimal.proofs.way.walk.Goals as goal

pub returns : goal.returns
returns c =
    let points = c.args.table.now.points.now in
    let deltas = c.args.table.now.deltas.now in
    let left = c.args.left.now in
    let first = c.args.first in
    let end : first + c.len.result ≡ first + length points = ap (λ (k : ℕ). first + k) c.len.ensures in
    let all = c.loop-at.invariant.so_far [] (omega arith) in
    subst (λ (e : ℕ). Walks (Reaches points deltas) left e first c.loop-at.points.items) end
    (subst (λ (xs : List ℕ). Walks (Reaches points deltas) left (first + c.len.result) first xs) (append-nil c.loop-at.points.items) all)
