-- The least set of a contour with what shows that no smaller set infers its deltas.
use Rattle.std.specs.Prelude.{◌≡◌, ℕ, ◌<◌, ◌↔◌, All, Any, List, [], length}
use Rattle.fixpoint.specs.declared.plane.Pair.{Pair}
use Rattle.variation_rules.specs.InferredDelta.{still}
use Rattle.iup.specs.Arcs.{RisesFrom, IsLeastSet}
use Rattle.iup.specs.Bounds.{IsRightRow, IsLeastRow, IsStartPoint, Bounds}
use Rattle.iup_optimal.specs.declared.row.Row.{Row}
use Rattle.iup_optimal.specs.declared.answer.Least.{Least}
use Rattle.iup_optimal.specs.Rows.{starts_of}

-- One row for each start of the pivot, in rising order, right for sets of m points and of the least numbers of arcs.
pub record AreRightRows (points deltas : List Pair) (m p : ℕ) (rows : List Row) : Type 0 where
  pub rising : RisesFrom 0 (length points) (starts_of rows)
  pub starts : (s : ℕ) → s < length points → (Any (λ row. row.start ≡ s) rows ↔ IsStartPoint points deltas p s)
  pub right : All (λ row. IsRightRow points deltas m row.start row.bounds) rows
  pub least : All (λ row. IsLeastRow points deltas row.start row.bounds) rows

-- The least set, with the rows of the pivot 0 for its size. Where nothing moves there is no point and no row.
pub record IsLeast (points deltas : List Pair) (least : Least) : Type 0 where
  pub set : IsLeastSet points deltas least.points
  pub pivot : least.pivot ≡ 0
  pub nothing : All (λ delta. delta ≡ still) deltas → (least.points ≡ []) × (least.rows ≡ [])
  pub rows : (All (λ delta. delta ≡ still) deltas → ⊥) → AreRightRows points deltas (length least.points) least.pivot least.rows
  pub bounds : (All (λ delta. delta ≡ still) deltas → ⊥) → Bounds points deltas (length least.points) least.pivot
