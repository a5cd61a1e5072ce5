-- Right rows of the starts of a pivot bound the size of each set that infers the deltas.
use Rattle.std.proofs.Common.{◌≡◌, ℕ, suc, ◌+◌, ◌-◌, ◌<◌, ◌≤◌, List, ◌∷◌, length, get_or, ap, arith}
use Rattle.fixpoint.specs.declared.plane.Pair.{Pair}
use Rattle.iup.specs.Arcs.{Infers, RisesFrom}
use Rattle.iup.specs.Bounds.{Path, Reaches, IsRightRow}
use Rattle.iup.specs.Laws.{RowsBound}
use Rattle.iup.proofs.Paths.{row_bounds, path_from_round}
use Rattle.iup.proofs.Starts.{closed_least}
use Rattle.iup.proofs.ArcLemmas.{reaches_cyclic, arc_from_step, start_point, round_from_links}

-- a right row bounds each way round from its start
right_row_bounds : (points deltas : List Pair) (m s : ℕ) (row : List ℕ) (k : ℕ) → length deltas ≡ length points → IsRightRow points deltas m s row → Path (Reaches points deltas) s (s + length points) k → m ≤ k
right_row_bounds points deltas m s row k size right path =
    let n = length points in
    let reached = row_bounds (Reaches points deltas) n (reaches_cyclic points deltas size) s (λ b. get_or row b 0) right.zero_first
    (λ a b less inside reach.
    let end : a + (b - a) ≡ b = omega arith in
    let step = right.steps a (b - a) (omega arith) (omega arith) (arc_from_step points deltas s a b size reach) in
    omega (arith, ap (λ x. get_or row x 0) end))
    n k (omega arith) path in
    omega (arith, right.last)

-- the ways of the set's arcs, as steps round the cycle
pub path_of_set : (points deltas : List Pair) (a : ℕ) (xs : List ℕ) → RisesFrom 0 (length points) (a ∷ xs) → Infers points deltas (a ∷ xs) → Path (Reaches points deltas) a (a + length points) (suc (length xs))
path_of_set points deltas a xs set infers =
    let below : a < length points = set.1 in
    path_from_round (Reaches points deltas) a xs (a + length points)
    (round_from_links points deltas a xs (a + length points) set.2 (omega arith) (omega arith) (omega arith) infers)

pub rows_bound : RowsBound
rows_bound points deltas m p a xs size inside bounds set infers =
    closed_least (Reaches points deltas) (length points) (reaches_cyclic points deltas size) p m inside
    (λ s k below is_start path.
    let row = bounds s below (start_point points deltas p s is_start) in
    right_row_bounds points deltas m s row.0 k size row.1 path)
    a (suc (length xs)) set.1 (path_of_set points deltas a xs set infers)
